-- Private. How many steps there are in the place of an assume.
use Rattle.std.proofs.Common.{◌≡◌, ◌≤◌, ◌+◌, ◌*◌, inl, inr, ℕ, List, [], ◌∷◌, ◌++◌, length, Contains, Ok, refl, sym, ◌∙◌, ap, subst, arith}
use Rattle.std.proofs.lemmas.List.Elements.{Contains-append_cases, Contains-append_left, Contains-append_right}
use Rattle.pair_pool.specs.Trees.{Tree}
use Rattle.term_model.proofs.Lists.{contains_cases, contains_head, contains_later, contains_none, same_one}
use Rattle.term_model.specs.Flips.{EqualUpToFlips}
use Rattle.term_model.specs.Terms.{Term}
use Rattle.term_pool.specs.CellCounts.{CountsCells}
use Rattle.term_pool.specs.Views.{TermsView, IsTerm, KnowsAll}
use Rattle.term_pool.proofs.TermLemmas.{equal_where}
use Rattle.rule_model.specs.declared.rules.Rule.{Rule}
use Rattle.equality_steps.specs.declared.site.Site.{Site}
use Rattle.flip_steps.specs.Memory.{IsCellWithinAny, IsRemembered, count_of}
use Rattle.equality_blocks.specs.Commands.{IsToElaborate, literals_of_command, rule_of_command}
use Rattle.equality_blocks.specs.Counts.{IsFew, IsRootOf, asserted, literal, side}
use Rattle.equality_blocks.specs.Pairs.{IsFirstAsserted}
use Rattle.equality_blocks.proofs.FewLemmas.{few_of}
use Rattle.elab_equality.specs.declared.work.Work.{Work}
use Rattle.elab_equality.specs.Assuming.{IsAssumedBy}
use Rattle.elab_equality.specs.Work.{IsDone, IsWork}
use Rattle.elab_equality.proofs.LiteralTerms.{literal_term}

-- of two places in a list, the one is before the other, or they are one
data AreSplits (a b : ℕ) (xs ys : List ℕ) : Type 0 where
  at_one : a ≡ b → AreSplits a b xs ys
  in_second : Contains ys a → AreSplits a b xs ys
  in_first : Contains xs b → AreSplits a b xs ys

splits : (xs ys cs ds : List ℕ) (a b : ℕ) → xs ++ a ∷ cs ≡ ys ++ b ∷ ds → AreSplits a b xs ys
splits [] [] cs ds a b e = at_one cc
splits [] (y ∷ ys) cs ds a b e = let is : y ≡ a = cc in in_second (subst (λ x. Contains (x ∷ ys) a) (sym is) (contains_head a ys))
splits (x ∷ xs) [] cs ds a b e = let is : x ≡ b = cc in in_first (subst (λ y. Contains (y ∷ xs) b) (sym is) (contains_head b xs))
splits (x ∷ xs) (y ∷ ys) cs ds a b e = go (splits xs ys cs ds a b cc)
  where
    go : AreSplits a b xs ys → AreSplits a b (x ∷ xs) (y ∷ ys)
    go (at_one is) = at_one is
    go (in_second has) = in_second (contains_later y a ys has)
    go (in_first has) = in_first (contains_later x b xs has)

module _ (p : Site) (v : TermsView) (job : IsToElaborate p v) (rule : rule_of_command p ≡ Rule.Assume) (first_one assumed : ℕ) (k : IsAssumedBy p v first_one assumed) where
  abbrev roots : List ℕ
  roots = literals_of_command p ++ first_one ∷ []

  -- there is one first assertion
  no_earlier : (r q : ℕ) (t u : Term) (h : IsFirstAsserted p v t r) (g : IsFirstAsserted p v u q) → t ≡ u → Contains h.before q → ⊥
  no_earlier r q t u h g is has =
      let other = h.others q has in
      let one : other.term ≡ g.term = (equal_where p.symbols.now v job.table job.known q q other.term g.term other.refers g.refers).0 refl in
      other.differs (subst (λ x. EqualUpToFlips x t) (sym one) (subst (EqualUpToFlips g.term) (sym is) g.equal))

  one_term : (r : ℕ) (t : Term) (h : IsFirstAsserted p v t r) → t ≡ k.term
  one_term r t h =
      let same_literal : h.assumed ≡ assumed = same_one h.assumed assumed (sym h.clause ∙ k.clause) in
      (equal_where p.symbols.now v job.table job.known h.assumed assumed t k.term h.assumed_refers k.refers).0 same_literal

  one_first : (r : ℕ) (t : Term) → IsFirstAsserted p v t r → r ≡ first_one
  one_first r t h = go (splits h.before k.first_is.before h.after k.first_is.after r first_one (sym h.asserted ∙ k.first_is.asserted))
    where
      go : AreSplits r first_one h.before k.first_is.before → r ≡ first_one
      go (at_one is) = is
      go (in_second has) = absurd (no_earlier first_one r k.term t k.first_is h (sym (one_term r t h)) has)
      go (in_first has) = absurd (no_earlier r first_one t k.term h k.first_is (one_term r t h) has)

  root_among : (r : ℕ) → IsRootOf p v r → Contains roots r
  root_among r (literal has) = Contains-append_left (literals_of_command p) (first_one ∷ []) r has
  root_among r (asserted t h) =
      Contains-append_right (literals_of_command p) (first_one ∷ []) r (subst (Contains (first_one ∷ [])) (sym (one_first r t h)) (contains_head first_one []))
  root_among r (side t u h refers) = absurd (let clash : Rule.Assume ≡ Rule.Refl = sym rule ∙ h.rule in cc)

  record IsGoodRoot (r : ℕ) : Type 0 where
    is : IsRootOf p v r
    term : IsTerm p.symbols.now v r

  good_root : (r : ℕ) → Contains roots r → IsGoodRoot r
  good_root r has = elim (Contains-append_cases (literals_of_command p) (first_one ∷ []) r has) [
    | inl one ↦ record { is = literal one; term = literal_term p v job r one }
    | inr other ↦ elim (contains_cases first_one r [] other) [
      | inl here ↦ subst IsGoodRoot here (record { is = asserted k.term k.first_is; term = record { means = k.first_is.term; refers = k.first_is.refers } })
      | inr none ↦ absurd (contains_none r none)
    ]
  ]

  pub assume_few : (w : Work) (n : ℕ) → IsWork p v w
      → ((rs : List ℕ) (trees : List Tree) (n : ℕ) → ((r : ℕ) → IsRemembered w.forms r → IsCellWithinAny p.symbols.now v rs r)
      → KnowsAll v.pass rs trees → CountsCells trees n → count_of w.forms ≤ n)
      → n ≤ 3 * count_of w.forms + 6 → IsFew p v n
  assume_few w n work cells bound =
      few_of p v roots (count_of w.forms) 0 n (record {
        are = λ r has. (good_root r has).is;
        terms = λ r has. (good_root r has).term;
        few = λ trees m known counts. cells roots trees m (λ r has. let cell = work.met r has in record {
          root = cell.root;
          among = root_among cell.root cell.is;
          within = cell.within;
        }) known counts;
        narrow = λ trees m known counts. omega arith;
        bound = omega (arith, bound);
      })

-- how many steps there are before the last one
pub assume_count : {X Y : Type 0} (p : Site) (u v : TermsView) (a b c : Work) (x : X) (y : Y) → a.block ≡ [] → count_of a.forms ≡ 0 → IsDone p u u a b 1 (Ok x)
    → IsDone p u v b c 4 (Ok y) → length c.block + 1 ≤ 3 * count_of c.forms + 6
assume_count p u v a b c x y none nothing first last =
    let one = first.moved.few in
    let two = last.moved.few in
    let empty : length a.block ≡ 0 = ap length none in
    omega (arith, one, two, empty, nothing)
