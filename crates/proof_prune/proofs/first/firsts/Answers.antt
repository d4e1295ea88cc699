use Rattle.std.proofs.Common.{◌≡◌, ◌<◌, ◌++◌, ◌∷◌, [], ◌⊎◌, inl, inr, ℕ, List, length, take, IfSome, Contains, sym, ◌∙◌, ap, subst}
use Rattle.std.proofs.lemmas.List.{take_all, take_more}
use Rattle.std.proofs.lemmas.List.Elements.{All-contains, Contains-append_cases, Contains-append_left, Contains-append_right}
use Rattle.term_model.proofs.Lists.{contains_cases, contains_head, contains_none}
use Rattle.term_pool.specs.Views.{IsTerm}
use Rattle.flip_keys.specs.Assertions.{references_of, AreAssertionsReady}
use Rattle.proof_prune.specs.Firsts.{AreFirsts}
use Rattle.proof_prune.proofs.FirstMarks.{one_first, told_first}
use Rattle.proof_prune.proofs.first.firsts.Goals as goal

pub mark_found-requires : goal.mark_found-requires
mark_found-requires c =
    let count = ap length c.wanted.invariant.1 ∙ sym c.wanted.invariant.3 in
    subst (λ n. IfSome c.in_ok-found.found (λ place. place < n)) count c.in_ok-found.ensures.within

pub wanted-preserved : goal.wanted-preserved
wanted-preserved c =
    let s = c.args.symbols.now in
    let v = c.args.terms.now in
    let all = c.args.assertions.now in
    let wanted = c.args.wanted.now in
    let i = c.wanted.r-index in
    let r = c.r-item.result in
    let same = c.wanted.invariant.0 in
    let are = c.wanted.invariant.1 in
    let now = c.first_asserted.ensures.same ∙ same in
    let is = All-contains (IsTerm s v) wanted r c.requires.wanted (i, c.wanted-test.true, sym c.r-item.is) in
    let more = take_more wanted i r c.wanted-test.true ∙ ap (λ w. take i wanted ++ w ∷ []) (sym c.r-item.is) in (
      now,
      c.first_asserted.ensures.references ∙ are,
      subst (λ w. AreAssertionsReady w c.first_asserted.new.self) now c.in_ok-found.ensures.ready,
      c.mark_found.ensures.count ∙ c.wanted.invariant.3,
      λ ts refer.
          subst (λ rs. AreFirsts s v ts rs c.mark_found.new.marks.items) (sym more)
          (one_first s v ts (take i wanted) (take i wanted ++ r ∷ []) r is (λ q has. Contains-append_left (take i wanted) (r ∷ []) q has)
          (Contains-append_right (take i wanted) (r ∷ []) r (contains_head r [])) (split (take i wanted) r) c.wanted.marks.items c.mark_found.new.marks.items
          c.in_ok-found.found c.mark_found.ensures.more
          (told_first s v c.wanted.terms (references_of c.wanted.among) all r c.in_ok-found.found same are c.in_ok-found.ensures.first
          c.in_ok-found.ensures.none ts refer)
          (c.wanted.invariant.4 ts refer)),
    )
  where
    split : (xs : List ℕ) (r q : ℕ) → Contains (xs ++ r ∷ []) q → Contains xs q ⊎ (r ≡ q)
    split xs r q has = elim (Contains-append_cases xs (r ∷ []) q has) [
      | inl old ↦ inl old
      | inr new ↦ elim (contains_cases r q [] new) [ inl same ↦ inr same | inr none ↦ absurd (contains_none q none) ]
    ]

pub returns-clause-firsts : goal.returns-clause-firsts
returns-clause-firsts c ts refer =
    let wanted = c.args.wanted.now in
    subst (λ rs. AreFirsts c.args.symbols.now c.args.terms.now ts rs c.wanted.marks.items) (take_all c.wanted.r-index wanted c.wanted-test.false)
    (c.wanted.invariant.4 ts refer)
