-- Private. Applications of one head whose arguments are linked, place by place or crosswise.
use Rattle.std.specs.Prelude.{◌≡◌, ◌≢◌, ℕ, List, [], ◌∷◌}
use Rattle.std.specs.List.{AllZip}
use Rattle.rule_model.specs.Congruence.{Head, applied, AreCrossed, AreLinked, IsLinked}
use Rattle.term_model.specs.Flips.{equality}
use Rattle.term_model.specs.Terms.{Term}
use Rattle.term_pool.specs.Views.{TermsView, RefersTo, ReferToAll}
use Rattle.equality_steps.specs.declared.site.Site.{Site}
use Rattle.equality_steps.specs.Sites.{AreSides}
use Rattle.equality_blocks.specs.Commands.{clause_of_command}
use Rattle.equality_blocks.specs.Made.{IsMadeFor}
use Rattle.elab_equality.specs.Linked.{ArePremises, IsPair}
use Rattle.elab_equality.specs.declared.matching.Applications.{Applications}
use Rattle.elab_equality.specs.declared.matching.Crossed.{Crossed}
use Rattle.elab_equality.specs.declared.matching.Matched.{Matched}

-- the arguments of two applications of one head, which are linked by the premises, place by place or crosswise
pub record AreLinkedArguments (p : Site) (v : TermsView) (lefts rights : List ℕ) : Type 0 where
  pub premises : List (List Term)
  pub are : ArePremises p v premises
  pub head : Head
  pub ts : List Term
  pub us : List Term
  pub lefts_refer : ReferToAll p.symbols.now v lefts ts
  pub rights_refer : ReferToAll p.symbols.now v rights us
  pub linked : AreLinked head premises ts us

-- place by place
abbrev pub AreMatchedArguments : Site → TermsView → List ℕ → List ℕ → Type 0
AreMatchedArguments p v lefts rights = (a : AreLinkedArguments p v lefts rights) → AllZip (IsLinked a.premises) a.ts a.us

-- crosswise
abbrev pub AreCrossedArguments : Site → TermsView → List ℕ → List ℕ → Type 0
AreCrossedArguments p v lefts rights = (a : AreLinkedArguments p v lefts rights) → AreCrossed a.head a.premises a.ts a.us

-- the clause equates two applications of one head, whose arguments are linked
pub record AreApplications (p : Site) (v : TermsView) (x : Applications) : Type 0 where
  pub literal : ℕ
  pub clause : clause_of_command p ≡ literal ∷ []
  pub linked : AreLinkedArguments p v x.lefts.items x.rights.items
  pub some : linked.ts ≢ []
  pub literal_refers : RefersTo p.symbols.now v literal (equality (applied linked.head linked.ts) (applied linked.head linked.us))
  pub left_refers : RefersTo p.symbols.now v x.left (applied linked.head linked.ts)
  pub right_refers : RefersTo p.symbols.now v x.right (applied linked.head linked.us)

-- two applications of one head whose arguments are pairs, and whose equality is made for the command
pub record IsMatched (p : Site) (v : TermsView) (x : Matched) : Type 0 where
  pub head : Head
  pub ts : List Term
  pub us : List Term
  pub some : ts ≢ []
  pub left_refers : RefersTo p.symbols.now v x.left (applied head ts)
  pub right_refers : RefersTo p.symbols.now v x.right (applied head us)
  pub lefts_refer : ReferToAll p.symbols.now v x.lefts.now ts
  pub rights_refer : ReferToAll p.symbols.now v x.rights.now us
  pub sides : AreSides p (applied head ts) (applied head us)
  pub made : IsMadeFor p v (equality (applied head ts) (applied head us))
  pub pairs : AllZip (IsPair p v) x.lefts.now x.rights.now

-- two equalities whose sides are pairs crosswise, and what is made to equate them
pub record IsCrossed (p : Site) (v : TermsView) (x : Crossed) : Type 0 where
  pub outer : IsPair p v x.a x.d
  pub inner : IsPair p v x.b x.c
  pub left_refers : RefersTo p.symbols.now v x.left (equality outer.left inner.left)
  pub right_refers : RefersTo p.symbols.now v x.right (equality inner.right outer.right)
  pub left_sides : AreSides p outer.left inner.left
  pub right_sides : AreSides p inner.right outer.right
  pub turned : IsMadeFor p v (equality inner.left outer.left)
  pub exchanged : IsMadeFor p v (equality (equality outer.left inner.left) (equality inner.left outer.left))
  pub through : IsMadeFor p v (equality (equality inner.left outer.left) (equality inner.right outer.right))
  pub made : IsMadeFor p v (equality (equality outer.left inner.left) (equality inner.right outer.right))
