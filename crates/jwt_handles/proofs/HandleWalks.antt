-- The functions that make a handle or take it apart: `empty`, `of_raw_box` and `into_raw_box` have the same code whichever state is owned, but for the name of the type, and so the same walk. Assumes `Logic`.
--     empty_code ..     the code, which each function's own is by computation
--     empty_says ..     the contract, likewise
--     empty_meets ..    the code meets the contract
use Rattle.std.proofs.Common.{◌≡◌, List, [], ◌∷◌, ◌++◌, refl, sym, subst, lit<}
use mathlib.Core.Bool.{Bool, true, false}
use seplogic.Ra.Ura.{Ura}
use mir.Syntax.{Callee, Fn, Local, local, value_local, Body, seq, assign, cond, return, place, field, copy, int, opd_true, opd_false, rv_opd, aggregate, ty_ptr, ty_bool, w8, w64}
use mir.Val.{Val, vbool, vptr, vcons, vnil}
use base.Logic.{SProp, ent, emp, id⊢}
use prog.Model.{Model}
use prog.Wp.{WpFn, Closed}
use types.Logic.{Logic}
use types.Kit.{‵, raw, ◌⊛◌, at_ret, ◌$◌, ◌∵◌, !, qed, by, move, keep, split, fsplit, fjoin, suffices, use0, use1}
use types.Run.{stop, fld, lit, true_lit, false_lit, of_opd, no_more, and_then, first, branches, exec, returns, enter}
use types.ByLocal.{alloc_all, pass_all, free_all, look_at, get, get_in, sets, sets_last, env}
use types.Part.{agg, sub, whole}
use types.Match.{live}
use contract.Monad.{fact, fact_i}
use contract.Running.{Running, MachineTables, tables}
use denote.Exit.{yes}
use denote.RattleType.{RattleType, owns}
use denote.RawPtr.{Ptr, block_ptr, null_ptr, ptr_val}
use denote.Signature.{types_at, plain}
use denote.Steps.{nothing}
use denote.Param.{layout}
use denote.Param.Laws.{Laws}
use denote.Struct.Values.{Values}
use denote.Triple.Clauses.{Ended, Clauses, closing}
use denote.Triple.Entry.{alive}
use denote.Triple.Spec.{Meets}
use denote.Triple.Walked.{Stays, stay_dropped, walk_of, Goes-dropped}
use Rattle.std.specs.Prelude.{Some, None, MatchOption}
use Rattle.core.proofs.alloc.Calls.{Goes-blank, handle_tells}
use Rattle.core.proofs.alloc.Shapes.{after}
use Rattle.core.proofs.atomic.Steps.{Ptr-Good}
use Rattle.core.proofs.cell.Inside.{Good}
use Rattle.core.proofs.option.Made.{Some-of, none_of}
use Rattle.core.specs.contracts.option.Option as option
use Rattle.std_alloc.proofs.ResultValues.{and_tt}
use Rattle.std_heap.specs.contracts.Global as heap
use Rattle.std_heap.specs.contracts.GlobalAllocator.TheImpl.{ghosts}
use Rattle.std_heap.proofs.Global.TheLaws as heap_laws
use Rattle.std.proofs.raw_atomic.Walks.{proved_at, leaves}
use Rattle.jwt_handles.proofs.Handles.{Form, parts, D, Row, al, three, three_good, handle_in, handle_out, handle_cases}
use Rattle.jwt_handles.proofs.Values.{both, RawBox, raw_box_good, raw_box_in, raw_box_out}

abbrev Z : RattleType
Z = heap.the_row

abbrev LZ : Laws Z
LZ = heap_laws.the_row_laws

-- a function of one parameter, with no lifetime
abbrev one : RattleType → RattleType → Ended
one P Q = record { signature = record { lifetimes = 0; outlives = []; params = plain (λ _. P) ∷ []; result = plain (λ _. Q) }; kept = (yes, tt) }

abbrev code : List Local → Body → Fn
code locals body = record { lifetimes = 0; outlives = []; ty_params = []; givens = 0; params = 1; locals = locals; body = body }

module _ {R : RattleType} (F : Form R) where
  abbrev Handle : RattleType
  Handle = Row F

  abbrev Boxed : RattleType
  Boxed = RawBox R Z LZ ghosts

  abbrev Maybe : RattleType
  Maybe = option.the_row Boxed

  abbrev of : RattleType → Local
  of X = local (layout X) value_local

  abbrev ptr : Local
  ptr = local ty_ptr value_local

  abbrev flag : Local
  flag = local ty_bool value_local

  -- ---- the code
  abbrev pub empty_code : Fn
  empty_code = code (of Handle ∷ of Z ∷ []) (seq (assign (place 0 []) (aggregate (int w64 0 ∷ opd_false ∷ copy (place 1 []) ∷ []))) return)

  abbrev pub of_raw_box_code : Fn
  of_raw_box_code = code (of Handle ∷ of Boxed ∷ ptr ∷ of Z ∷ ptr ∷ []) (
      seq (assign (place 2 []) (rv_opd (copy (place 1 (field 0 ∷ []))))) (
      seq (assign (place 3 []) (rv_opd (copy (place 1 (field 1 ∷ []))))) (
      seq (assign (place 4 []) (rv_opd (copy (place 2 [])))) (
      seq (assign (place 0 []) (aggregate (copy (place 4 []) ∷ opd_true ∷ copy (place 3 []) ∷ []))) return))))

  abbrev pub into_raw_box_code : Fn
  into_raw_box_code = code (of Maybe ∷ of Handle ∷ ptr ∷ flag ∷ of Z ∷ flag ∷ of Maybe ∷ ptr ∷ of Boxed ∷ []) (
      seq (assign (place 2 []) (rv_opd (copy (place 1 (field 0 ∷ []))))) (
      seq (assign (place 3 []) (rv_opd (copy (place 1 (field 1 ∷ []))))) (
      seq (assign (place 4 []) (rv_opd (copy (place 1 (field 2 ∷ []))))) (
      seq (assign (place 5 []) (rv_opd (copy (place 3 [])))) (
      seq (cond (copy (place 5 []))
      (seq (assign (place 7 []) (rv_opd (copy (place 2 [])))) (
      seq (assign (place 8 []) (aggregate (copy (place 7 []) ∷ copy (place 4 []) ∷ [])))
      (assign (place 6 []) (aggregate (int w8 1 ∷ copy (place 8 []) ∷ [])))))
      (assign (place 6 []) (aggregate (int w8 0 ∷ [])))) (
      seq (assign (place 0 []) (rv_opd (copy (place 6 [])))) return))))))

  module _ {M : Type 1} (𝓤 : Ura M) (𝓛 : Logic 𝓤) where
    -- ---- the contracts
    abbrev empty_says : Clauses 𝓤 (one Z Handle)
    empty_says κs p = record { ghost = Unit {0}; requires = λ _. emp 𝓤; ensures = λ g r end. fact 𝓤 (F.state r ≡ None) }

    abbrev of_raw_box_says : Clauses 𝓤 (one Boxed Handle)
    of_raw_box_says κs p = record { ghost = Unit {0}; requires = λ _. emp 𝓤; ensures = λ g r end. fact 𝓤 (F.state r ≡ Some p.0.value) }

    abbrev into_raw_box_says : Clauses 𝓤 (one Handle Maybe)
    into_raw_box_says κs p = record { ghost = Unit {0}; requires = λ _. emp 𝓤; ensures = λ g r end. fact 𝓤 (MatchOption r (F.state p.0 ≡ None) (λ b. F.state p.0 ≡ Some b.value)) }

    -- ---- the walks
    module _ (𝓜 : Model 𝓤 𝓛.H) (𝓡 : Running 𝓤 𝓛.H 𝓜) (key : Callee) where
      abbrev 𝓣 : MachineTables 𝓤 𝓛.H 𝓜
      𝓣 = tables 𝓤 𝓛.H 𝓜 𝓡 𝓡.env

      -- puts the fields together, and owns nothing
      pub empty_meets : Closed 𝓤 𝓛.H 𝓣.C 𝓣.Λ key empty_code → Meets 𝓛 (one Z Handle).signature (𝓣.C key) (closing 𝓛 (one Z Handle) empty_says)
      empty_meets closed =
          let En = one Z Handle in let c = empty_says in let fn : Fn = empty_code in let hs : Stays En.signature.params En.kept = (stay_dropped (plain (λ _. Z)) yes, tt) in
          proved_at 𝓛 En hs c 𝓜 𝓡 (Goes-dropped 𝓛 0 (plain (λ _. Z)) yes (λ κs x f. refl), tt) key fn closed (λ z are.
          let Post : Val → SProp 𝓤 = (walk_of 𝓛 En hs c).post z in let Run : List Val → SProp 𝓤 = λ ws. WpFn 𝓤 𝓛.H 𝓣.C 𝓣.Λ fn ws Post in let x = z.0.3.0 in
          let d : D F = F.make (null_ptr, (false, (x, tt))) None in
          qed 𝓛 ((raw (alive 𝓛 En.signature z.0.0 z.0.1) ⊛ ‵ (owns (types_at En.signature.params z.0.0) z.0.3 z.0.4)) ∷ raw ((c z.0.0 z.0.3).requires z.1) ∷ []) ∵ split ! $ move ! (1 ∷ []) $ fsplit ! $
          handle_tells al ! x z.0.4.0 (λ h ea fits. move ! (1 ∷ 0 ∷ []) $ handle_in F ! h (null_ptr, (false, (x, tt))) None $
          suffices ! (Run (h ∷ [])) (subst (λ (us : List Val). ent 𝓤 (Run (h ∷ [])) (Run us)) (sym (λ i. ea i ++ [])) (id⊢ 𝓤 (Run (h ∷ [])))) $
          enter ! 𝓣.C 𝓣.Λ fn (h ∷ []) Post $ alloc_all ! (λ l. pass_all ! refl (fits, tt) $
          sets ! (agg ! (and_then ! (lit ! tt) (and_then ! (false_lit !) (and_then ! (get ! refl) (no_more !))))) refl (three_good F null_ptr false h fits) $
          use0 𝓛 (raw (fact 𝓤 (F.state d ≡ None))) (fact_i 𝓤 (F.state d ≡ None) (emp 𝓤) (F.state_is _ None)) $ nothing ! $ nothing ! $ fjoin ! $
          returns ! (look_at ! 0 refl) $ free_all ! refl $ keep ! (3 ∷ 0 ∷ 2 ∷ 1 ∷ []) $ by ! (leaves 𝓛 En hs c z (three (ptr_val null_ptr) (vbool false) h) d (tt, tt) (tt, tt)))))

      -- moves the fields, and what they own goes with them
      pub of_raw_box_meets : Closed 𝓤 𝓛.H 𝓣.C 𝓣.Λ key of_raw_box_code → Meets 𝓛 (one Boxed Handle).signature (𝓣.C key) (closing 𝓛 (one Boxed Handle) of_raw_box_says)
      of_raw_box_meets closed =
          let En = one Boxed Handle in let c = of_raw_box_says in let fn : Fn = of_raw_box_code in let hs : Stays En.signature.params En.kept = (stay_dropped (plain (λ _. Boxed)) yes, tt) in
          proved_at 𝓛 En hs c 𝓜 𝓡 (Goes-blank 𝓛 0 (plain (λ _. Boxed)) yes (λ κs x f. tt), tt) key fn closed (λ z are.
          let Post : Val → SProp 𝓤 = (walk_of 𝓛 En hs c).post z in let Run : List Val → SProp 𝓤 = λ ws. WpFn 𝓤 𝓛.H 𝓣.C 𝓣.Λ fn ws Post in let v = z.0.3.0 in
          qed 𝓛 ((raw (alive 𝓛 En.signature z.0.0 z.0.1) ⊛ ‵ (owns (types_at En.signature.params z.0.0) z.0.3 z.0.4)) ∷ raw ((c z.0.0 z.0.3).requires z.1) ∷ []) ∵ split ! $ move ! (1 ∷ []) $ fsplit ! $
          raw_box_out R Z LZ ghosts ! v z.0.4.0 (λ b o h e ws fits. let w : Val = both (vptr b o) h in let made : Values parts = (block_ptr b o, (true, (v.alloc, tt))) in
          let d : D F = F.make made (Some v.value) in handle_in F ! h made (Some v.value) $
          suffices ! (Run (w ∷ [])) (subst (λ (us : List Val). ent 𝓤 (Run (w ∷ [])) (Run us)) (sym (λ i. ws i ++ [])) (id⊢ 𝓤 (Run (w ∷ [])))) $
          enter ! 𝓣.C 𝓣.Λ fn (w ∷ []) Post $ alloc_all ! (λ l. pass_all ! refl (raw_box_good R Z LZ ghosts b o h fits, tt) $
          sets ! (of_opd ! (get_in ! (fld ! refl (stop !)) (sub ! 0 refl (whole !)))) refl (tt, tt) $ sets ! (of_opd ! (get_in ! (fld ! refl (stop !)) (sub ! 1 refl (whole !)))) refl fits $ sets ! (of_opd ! (get ! refl)) refl (tt, tt) $
          sets ! (agg ! (and_then ! (get ! refl) (and_then ! (true_lit !) (and_then ! (get ! refl) (no_more !))))) refl (three_good F (block_ptr b o) true h fits) $
          use0 𝓛 (raw (fact 𝓤 (F.state d ≡ Some v.value))) (fact_i 𝓤 (F.state d ≡ Some v.value) (emp 𝓤) (F.state_is made (Some v.value))) $ nothing ! $ nothing ! $ fjoin ! $
          returns ! (look_at ! 0 refl) $ free_all ! refl $ keep ! (4 ∷ 0 ∷ 2 ∷ 1 ∷ []) $ by ! (leaves 𝓛 En hs c z (three (vptr b o) (vbool true) h) d (tt, tt) (tt, tt)))))

      -- moves the fields back, where a state is held
      pub into_raw_box_meets : Closed 𝓤 𝓛.H 𝓣.C 𝓣.Λ key into_raw_box_code → Meets 𝓛 (one Handle Maybe).signature (𝓣.C key) (closing 𝓛 (one Handle Maybe) into_raw_box_says)
      into_raw_box_meets closed =
          let En = one Handle Maybe in let c = into_raw_box_says in let fn : Fn = into_raw_box_code in let hs : Stays En.signature.params En.kept = (stay_dropped (plain (λ _. Handle)) yes, tt) in
          proved_at 𝓛 En hs c 𝓜 𝓡 (Goes-blank 𝓛 0 (plain (λ _. Handle)) yes (λ κs x f. tt), tt) key fn closed (λ z are.
          let Post : Val → SProp 𝓤 = (walk_of 𝓛 En hs c).post z in let Run : List Val → SProp 𝓤 = λ ws. WpFn 𝓤 𝓛.H 𝓣.C 𝓣.Λ fn ws Post in let had = F.values z.0.3.0 in let p = had.0 in let x = had.1.1.0 in let state = F.state z.0.3.0 in
          qed 𝓛 ((raw (alive 𝓛 En.signature z.0.0 z.0.1) ⊛ ‵ (owns (types_at En.signature.params z.0.0) z.0.3 z.0.4)) ∷ raw ((c z.0.0 z.0.3).requires z.1) ∷ []) ∵ split ! $ move ! (1 ∷ []) $ fsplit ! $
          handle_out F ! z.0.3.0 z.0.4.0 (λ h ws fits. handle_cases F ! x had.1.0 p state
          (λ b o s eh ep es. let w : Val = three (vptr b o) (vbool true) h in
          let ws' = subst (λ (q : Ptr). z.0.4.0 ≡ three (ptr_val q) (vbool true) h ∷ []) ep (subst (λ (y : Bool). z.0.4.0 ≡ three (ptr_val p) (vbool y) h ∷ []) eh ws) in
          let d : Boxed.Denot = record { at = block_ptr b o; alloc = x; value = s } in let made : Val = both (vptr b o) h in let typed = raw_box_good R Z LZ ghosts b o h fits in let v₁ : Val = live 1 (vcons made vnil) in
          let good : Good (layout Maybe) v₁ = (and_tt _ typed.0, (record { fits = lit< tt }, (typed.1, tt))) in let Said : Type 0 = state ≡ Some s in
          suffices ! (Run (w ∷ [])) (subst (λ (us : List Val). ent 𝓤 (Run (w ∷ [])) (Run us)) (sym (λ i. ws' i ++ [])) (id⊢ 𝓤 (Run (w ∷ [])))) $
          enter ! 𝓣.C 𝓣.Λ fn (w ∷ []) Post $ alloc_all ! (λ l. pass_all ! refl (three_good F (block_ptr b o) true h fits, tt) $ let Ev = env fn.locals l in
          sets ! (of_opd ! (get_in ! (fld ! refl (stop !)) (sub ! 0 refl (whole !)))) refl (tt, tt) $ sets ! (of_opd ! (get_in ! (fld ! refl (stop !)) (sub ! 1 refl (whole !)))) refl (tt, tt) $ sets ! (of_opd ! (get_in ! (fld ! refl (stop !)) (sub ! 2 refl (whole !)))) refl fits $
          sets ! (of_opd ! (get ! refl)) refl (tt, tt) $ first ! $ branches ! (get ! refl) (λ _.
          sets ! (of_opd ! (get ! refl)) refl (tt, tt) $ sets ! (agg ! (and_then ! (get ! refl) (and_then ! (get ! refl) (no_more !)))) refl typed $ sets_last ! (agg ! (and_then ! (lit ! tt) (and_then ! (get ! refl) (no_more !)))) refl good $
          exec ! 𝓣.C 𝓣.Λ Ev (after 5 fn.body) (at_ret Ev Post) $ sets ! (of_opd ! (get ! refl)) refl good $ raw_box_in R Z LZ ghosts ! b o h x s $
          use1 𝓛 (‵ (Maybe.own_val (Some d) (v₁ ∷ []))) (Some-of 𝓛 Boxed d made) $ use0 𝓛 (raw (fact 𝓤 Said)) (fact_i 𝓤 Said (emp 𝓤) es) $ nothing ! $ nothing ! $ fjoin ! $
          returns ! (look_at ! 0 refl) $ free_all ! refl $ keep ! (4 ∷ 0 ∷ 2 ∷ 1 ∷ []) $ by ! (leaves 𝓛 En hs c z v₁ (Some d) (tt, tt) (tt, tt))) (λ wrong. absurd wrong)))
          (λ eh es. let w : Val = three (ptr_val p) (vbool false) h in let ws' = subst (λ (y : Bool). z.0.4.0 ≡ three (ptr_val p) (vbool y) h ∷ []) eh ws in let Said : Type 0 = state ≡ None in
          let good : Good (layout Maybe) (live 0 vnil) = (tt, (record { fits = lit< tt }, tt)) in
          suffices ! (Run (w ∷ [])) (subst (λ (us : List Val). ent 𝓤 (Run (w ∷ [])) (Run us)) (sym (λ i. ws' i ++ [])) (id⊢ 𝓤 (Run (w ∷ [])))) $
          enter ! 𝓣.C 𝓣.Λ fn (w ∷ []) Post $ alloc_all ! (λ l. pass_all ! refl (three_good F p false h fits, tt) $ let Ev = env fn.locals l in
          sets ! (of_opd ! (get_in ! (fld ! refl (stop !)) (sub ! 0 refl (whole !)))) refl (Ptr-Good p) $ sets ! (of_opd ! (get_in ! (fld ! refl (stop !)) (sub ! 1 refl (whole !)))) refl (tt, tt) $ sets ! (of_opd ! (get_in ! (fld ! refl (stop !)) (sub ! 2 refl (whole !)))) refl fits $
          sets ! (of_opd ! (get ! refl)) refl (tt, tt) $ first ! $ branches ! (get ! refl) (λ wrong. absurd wrong) (λ _.
          sets_last ! (agg ! (and_then ! (lit ! tt) (no_more !))) refl good $ exec ! 𝓣.C 𝓣.Λ Ev (after 5 fn.body) (at_ret Ev Post) $ sets ! (of_opd ! (get ! refl)) refl good $
          use0 𝓛 (‵ (Maybe.own_val None (live 0 vnil ∷ []))) (none_of 𝓛 Boxed) $ use0 𝓛 (raw (fact 𝓤 Said)) (fact_i 𝓤 Said (emp 𝓤) es) $ nothing ! $ nothing ! $ fjoin ! $
          returns ! (look_at ! 0 refl) $ free_all ! refl $ keep ! (5 ∷ 0 ∷ 2 ∷ 1 ∷ []) $ by ! (leaves 𝓛 En hs c z (live 0 vnil) None (tt, tt) (tt, tt)))))))
