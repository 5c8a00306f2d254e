-- A handle, whichever state it owns: its machine values, what it owns, and that it may go to another thread. Assumes `Logic`.
--     Form              what differs from one handle to the next. `HandleForms.antt` has the four
--     Row               the type of a handle of this form, which is the declared type's own by computation
--     handle_out, handle_in     a handle is taken apart into what its state owns and the allocator, and put together
--     handle_cases      a state is held, in a block, or none is
--     handle_send       it may go to another thread, where its state may
use Rattle.std.proofs.Common.{◌≡◌, ℕ, List, [], ◌∷◌, ◌++◌, refl, sym, subst, lit<}
use mathlib.Core.Bool.{Bool, true, false}
use seplogic.Ra.Ura.{Ura}
use mir.Syntax.{impl, tnil, dnil}
use mir.Val.{Val, vbool, vstruct, vcons, vnil, of_list}
use mir.Raw.{raw as bare}
use base.Logic.{never, never_e, fst∗}
use base.Fml.{Fml, ftrue, fsep}
use base.Shift.{Keyless}
use types.Logic.{Logic, sem}
use types.Kit.{Item, Goal, Seq, Step, step, ‵, given, learn, use1, ◌$◌, move, drop, fsplit, fjoin, fpick, fpack, feq_i, feq_l, rewrite}
use denote.Exit.{hidden, under}
use denote.RattleType.{RattleType, Valss}
use denote.Builtin.{RawPtr, bool}
use denote.Memory.{lone}
use denote.RawPtr.{Ptr, block_ptr, null_ptr, ptr_val, in_a_block}
use denote.Steps.{nothing}
use denote.Param.{layout}
use denote.Param.Send.{IsSend, AllSend, owning_send, struct_send, sendable}
use denote.Struct.Field.{Field, RawPtr-field, bool-field, rows}
use denote.Struct.Values.{Values, intos}
use denote.Struct.Struct.{Struct, within, exits_of}
use denote.Struct.Owning.{Owning, shape, fields, to, row}
use Rattle.core.proofs.alloc.Calls.{Al, handle_tells}
use Rattle.core.proofs.cell.Inside.{Good}
use Rattle.std.proofs.Crossing as crossing
use Rattle.std_alloc.proofs.ResultValues.{and_tt}
use Rattle.std_alloc.proofs.SendSync.{quiet, lies}
use Rattle.std_heap.proofs.Global.TheSendSync as global
use Rattle.std_heap.specs.contracts.Global as heap
use Rattle.std_heap.specs.contracts.GlobalAllocator.TheImpl.{ghosts, dict}
use Rattle.std_heap.proofs.Global.TheLaws as heap_laws
use Rattle.std.specs.Prelude.{Option, Some, None}
use Rattle.std_alloc.specs.Box.Ownership.{box_owns}
use Rattle.jwt_handles.specs.Handles.{handle_owns}

abbrev pub parts : List Field
parts = RawPtr-field ∷ bool-field ∷ heap.the_field ∷ []

-- a struct of these fields and of a ghost field, the state, of which it is made: both equations hold by computation
pub record Form (R : RattleType) : Type 2 where
  pub declared : Owning
  pub values : declared.D → Values parts
  pub state : declared.D → Option R.Denot
  pub make : Values parts → Option R.Denot → declared.D
  pub values_is : (v : Values parts) (s : Option R.Denot) → values (make v s) ≡ v
  pub state_is : (v : Values parts) (s : Option R.Denot) → state (make v s) ≡ s

abbrev pub three : Val → Val → Val → Val
three p t h = vstruct (vcons p (vcons t (vcons h vnil)))

abbrev pub al : Al
al = record { row = heap.the_row; laws = heap_laws.the_row_laws; g = ghosts; d = dict; drops = impl [] tnil dnil }

module _ {R : RattleType} (F : Form R) where
  abbrev pub D : Type 0
  D = F.declared.D

  abbrev pub the_type : Owning
  the_type = record {
    name = F.declared.name;
    args = [];
    types = [];
    parts = parts;
    D = D;
    as_values = F.values;
    coded = F.declared.coded;
    heap = λ d. handle_owns R (F.values d).1.1.0 (F.values d).1.0 (F.values d).0 (F.state d);
    exit = λ k. hidden (under (λ d. intos parts (F.values d)) (exits_of k (rows parts)));
    shr_at = F.declared.shr_at;
  }

  abbrev pub Row : RattleType
  Row = row the_type

  pub three_good : (p : Ptr) (y : Bool) (h : Val) → Good (layout heap.the_row) h → Good (layout Row) (three (ptr_val p) (vbool y) h)
  three_good (block_ptr b o) y h fits = (and_tt _ fits.0, (tt, (tt, (fits.1, tt))))
  three_good null_ptr y h fits = (and_tt _ fits.0, (record { fits = lit< tt }, (tt, (fits.1, tt))))

  -- what a handle of these fields and this state owns
  abbrev owned : Values parts → Option R.Denot → List Val → Fml
  owned v s vs = fsep ((Struct (shape the_type)).own_val (intos parts v) vs) (handle_owns R v.1.1.0 v.1.0 v.0 s)

  module _ {M : Type 1} {𝓤 : Ura M} {𝓛 : Logic 𝓤} {K : Type 0} {Γ : List (Item 𝓤)} {G : Goal 𝓤 𝓛.H} where
    pub handle_out : K → (d : D) (vs : List Val) → let v = F.values d in
        ((h : Val) → vs ≡ three (ptr_val v.0) (vbool v.1.0) h ∷ [] → Good (layout heap.the_row) h
        → Seq K 𝓛 (‵ (handle_owns R v.1.1.0 v.1.0 v.0 (F.state d)) ∷ ‵ (heap.the_row.own_val v.1.1.0 (h ∷ [])) ∷ Γ) G)
        → Seq K 𝓛 (‵ (Row.own_val d vs) ∷ Γ) G
    handle_out t d vs k = let v = F.values d in
        fsplit t $ fpick t (λ vss. fsplit t $ feq_l t (λ ev. fsplit t $ feq_l t (λ ep. fsplit t $ feq_l t (λ eb. fsplit t $ handle_tells al t v.1.1.0 vss.1.1.0 (λ h ea fits. move t (1 ∷ []) $ drop t $ move t (1 ∷ []) $
        k h (subst (λ (ws : List Val). vs ≡ vstruct (of_list (ptr_val v.0 ∷ (vbool v.1.0 ∷ (ws ++ [])))) ∷ []) ea
        (subst (λ (bs : List Val). vs ≡ vstruct (of_list (ptr_val v.0 ∷ (bs ++ (vss.1.1.0 ++ [])))) ∷ []) eb
        (subst (λ (ps : List Val). vs ≡ vstruct (of_list (ps ++ (vss.1.0 ++ (vss.1.1.0 ++ [])))) ∷ []) ep ev))) fits)))))

    pub handle_in : K → (h : Val) (v : Values parts) (s : Option R.Denot) → let vs = three (ptr_val v.0) (vbool v.1.0) h ∷ [] in
        Step K 𝓛 (‵ (Row.own_val (F.make v s) vs) ∷ Γ) G (‵ (handle_owns R v.1.1.0 v.1.0 v.0 s) ∷ ‵ (heap.the_row.own_val v.1.1.0 (h ∷ [])) ∷ Γ) G
    handle_in t h v s = step (λ rest. let w : Val = three (ptr_val v.0) (vbool v.1.0) h in let d : D = F.make v s in
        nothing t $ move t (2 ∷ 0 ∷ []) $ fjoin t $ feq_i t (List Val) (vbool v.1.0 ∷ []) (vbool v.1.0 ∷ []) refl $ fjoin t $
        feq_i t (List Val) (ptr_val v.0 ∷ []) (ptr_val v.0 ∷ []) refl $ fjoin t $ feq_i t (List Val) (w ∷ []) (w ∷ []) refl $ fjoin t $
        fpack t (Valss (RawPtr ∷ bool ∷ heap.the_row ∷ [])) (within (shape the_type) (intos parts v) (w ∷ [])) (ptr_val v.0 ∷ [], (vbool v.1.0 ∷ [], (h ∷ [], tt))) $ fjoin t $
        rewrite t 0 (λ (x : Values parts). ‵ (owned x s (w ∷ []))) (sym (F.values_is v s)) refl $ rewrite t 0 (λ (x : Option R.Denot). ‵ (owned (F.values d) x (w ∷ []))) (sym (F.state_is v s)) refl $ rest)

    -- the state's block, where one is held, and else nothing
    pub handle_cases : K → (a : heap.the_row.Denot) (held : Bool) (p : Ptr) (d : Option R.Denot)
        → ((b o : ℕ) (x : R.Denot) → held ≡ true → p ≡ block_ptr b o → d ≡ Some x → Seq K 𝓛 (‵ (box_owns (ghosts.dealloc_token a) R (block_ptr b o) x) ∷ Γ) G)
        → (held ≡ false → d ≡ None → Seq K 𝓛 Γ G) → Seq K 𝓛 (‵ (handle_owns R a held p d) ∷ Γ) G
    handle_cases t a true p (Some x) full none =
        in_a_block t p (λ q. box_owns (ghosts.dealloc_token a) R q x) (fst∗ 𝓤 (never 𝓤) (sem 𝓛 (ghosts.dealloc_token a (bare (lone R.mir)) null_ptr))) (λ b o e. full b o x refl e refl)
    handle_cases t a true p None full none = use1 𝓛 (given ⊥ (‵ ftrue)) (never_e 𝓤 _) $ learn t (λ z. absurd z)
    handle_cases t a false p (Some x) full none = use1 𝓛 (given ⊥ (‵ ftrue)) (never_e 𝓤 _) $ learn t (λ z. absurd z)
    handle_cases t a false p None full none = drop t $ none refl refl

  keyless : IsSend R → (a : heap.the_row.Denot) (held : Bool) (p : Ptr) (d : Option R.Denot) → Keyless (handle_owns R a held p d)
  keyless s a true p (Some x) = (lies R s p x, crossing.frees.frees a (bare (lone R.mir)) p)
  keyless s a true p None = tt
  keyless s a false p (Some x) = tt
  keyless s a false p None = tt

  pub handle_send : IsSend R → IsSend Row
  handle_send s =
      let all : AllSend (fields the_type) = (search sendable, (search sendable, (global.the_field_send, tt))) in
      owning_send the_type all (λ d. keyless s (F.values d).1.1.0 (F.values d).1.0 (F.values d).0 (F.state d))
      (λ k. quiet (to the_type) (exits_of k (fields the_type)) ((struct_send (shape the_type) all).leaving k))
