use Rattle.std.proofs.Common.{◌≡◌, Some, refl, ap, sym, ◌∙◌, subst}
use Rattle.std.specs.List.{slice_get}
use Rattle.std.proofs.lemmas.Option.{slice_get_read}
use Rattle.jwt_sources.specs.Changes.{IsLetGo, IsLike}
use Rattle.jwt_sources.specs.Places.{named}
use Rattle.jwt_sources.specs.Steps.{ticket_of}
use Rattle.jwt_sources.specs.Tickets.{WasAnswered}
use Rattle.jwt_sources.proofs.Lists.{one_at, set_at, set_other}
use Rattle.jwt_sources.proofs.Runs.{other_stands}
use Rattle.jwt_sources.proofs.sources.Sources.take_over.Goals as goal

pub returns-clause-stands : goal.returns-clause-stands
returns-clause-stands g c = λ log st was.
    let here : slice_get c.args.self.now.sources.items c.args.at ≡ Some c.index_mut-source.result.now =
    slice_get_read c.args.self.now.sources.items c.args.self.now.sources.len c.args.at c.index_mut-source.result.now c.args.self.now.sources.ok.0 c.requires c.index_mut-source.ensures.value in
    let there : slice_get c.args.old.now.sources.items c.in-Some.from ≡ Some c.index_mut-was.result.now =
    slice_get_read c.args.old.now.sources.items c.args.old.now.sources.len c.in-Some.from c.index_mut-was.result.now c.args.old.now.sources.ok.0 c.in-Some.ensures.within c.index_mut-was.ensures.value in (
      other_stands c.args.self.now _ c.args.at c.let_go.new.self log (set_at c.args.self.now.sources.items c.args.at c.index_mut-source.result.now c.let_go.new.self here)
          (λ other apart. set_other c.args.self.now.sources.items c.args.at other c.let_go.new.self apart) refl (ap ticket_of c.let_go.ensures.step)
          (λ k has. subst (λ p. WasAnswered (named p) k.ticket (Some k.prepared) log) (sym (c.let_go.ensures.place ∙ ap (λ x. x.place) c.swap.ensures.x_after))
          (was.keys c.in-Some.from c.index_mut-was.result.now k there (sym (c.let_go.ensures.keys ∙ ap (λ x. x.keys) c.swap.ensures.x_after) ∙ has))) st,
      other_stands c.args.old.now _ c.in-Some.from c.let_go-2.new.self log (set_at c.args.old.now.sources.items c.in-Some.from c.index_mut-was.result.now c.let_go-2.new.self there)
          (λ other apart. set_other c.args.old.now.sources.items c.in-Some.from other c.let_go-2.new.self apart) refl (ap ticket_of c.let_go-2.ensures.step)
          (λ k has. subst (λ p. WasAnswered (named p) k.ticket (Some k.prepared) log) (sym (c.let_go-2.ensures.place ∙ ap (λ x. x.place) c.swap.ensures.y_after))
          (st.keys c.args.at c.index_mut-source.result.now k here (sym (c.let_go-2.ensures.keys ∙ ap (λ x. x.keys) c.swap.ensures.y_after) ∙ has))) was,
    )

pub returns-clause-taken : goal.returns-clause-taken
returns-clause-taken g c = λ yes.
    let read : slice_get c.args.self.now.sources.items c.args.at ≡ Some c.index.result.now =
    slice_get_read c.args.self.now.sources.items c.args.self.now.sources.len c.args.at c.index.result.now c.args.self.now.sources.ok.0 c.requires c.index.ensures in
    let here : slice_get c.args.self.now.sources.items c.args.at ≡ Some c.index_mut-source.result.now =
    slice_get_read c.args.self.now.sources.items c.args.self.now.sources.len c.args.at c.index_mut-source.result.now c.args.self.now.sources.ok.0 c.requires c.index_mut-source.ensures.value in
    let there : slice_get c.args.old.now.sources.items c.in-Some.from ≡ Some c.index_mut-was.result.now =
    slice_get_read c.args.old.now.sources.items c.args.old.now.sources.len c.in-Some.from c.index_mut-was.result.now c.args.old.now.sources.ok.0 c.in-Some.ensures.within c.index_mut-was.ensures.value in (
      c.index_mut-source.result.now,
      c.let_go.new.self,
      here,
      set_at c.args.self.now.sources.items c.args.at c.index_mut-source.result.now c.let_go.new.self here,
      (
        c.in-Some.from,
        c.index_mut-was.result.now,
        there,
        subst (λ x. IsLike c.index_mut-was.result.now x) (one_at c.args.self.now.sources.items c.args.at c.index.result.now c.index_mut-source.result.now read here)
            (c.in-Some.ensures.like c.index_mut-was.result.now there),
        subst (λ x. IsLetGo x c.args.now c.let_go.new.self) c.swap.ensures.x_after c.let_go.ensures,
      ),
      λ other apart. set_other c.args.self.now.sources.items c.args.at other c.let_go.new.self apart,
    )
