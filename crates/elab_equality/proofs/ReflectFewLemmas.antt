-- Private. How many steps there are in the place of a refl.
use Rattle.std.proofs.Common.{◌≡◌, ◌≤◌, ◌+◌, ◌*◌, ◌⊎◌, inl, inr, ℕ, List, [], ◌∷◌, ◌++◌, length, map, Contains, Ok, refl, sym, ◌∙◌, ap, subst, arith}
use Rattle.std.proofs.lemmas.List.Elements.{Contains-append_cases, Contains-append_left, Contains-append_right}
use Rattle.pair_pool.specs.Trees.{Tree}
use Rattle.pair_pool.specs.Views.{IsOneToOne}
use Rattle.term_model.proofs.Lists.{contains_cases, contains_head, contains_later, contains_none}
use Rattle.term_model.specs.Flips.{equality}
use Rattle.term_model.specs.Terms.{Term, not_of}
use Rattle.term_pool.specs.CellCounts.{CountsCells}
use Rattle.term_pool.specs.Views.{TermsView, IsTerm, KeepsTerms, KnowsAll, RefersTo}
use Rattle.term_pool.proofs.TermLemmas.{equal_where}
use Rattle.rule_model.specs.declared.rules.Rule.{Rule}
use Rattle.rule_model.specs.Contexts.{images}
use Rattle.rule_model.specs.Reading.{clause_at, premises_at}
use Rattle.rule_model.specs.Substitution.{put_in}
use Rattle.equality_steps.specs.declared.site.Site.{Site}
use Rattle.flip_steps.specs.Memory.{IsCellWithinAny, IsRemembered, count_of}
use Rattle.equality_blocks.specs.Blocks.{IsBlockFor}
use Rattle.equality_blocks.specs.Commands.{IsToElaborate, IsLiteralOfCommand, literals_of_command, rule_of_command}
use Rattle.equality_blocks.specs.Counts.{IsFew, IsRootOf, asserted, literal, side}
use Rattle.equality_blocks.specs.Pairs.{AreEquated, IsPutIn}
use Rattle.equality_blocks.proofs.FewLemmas.{few_of}
use Rattle.equality_blocks.proofs.LiteralLemmas.{literal_there}
use Rattle.equality_blocks.proofs.StayLemmas.{command_later}
use Rattle.elab_equality.specs.declared.reflecting.Reflected.{Reflected}
use Rattle.elab_equality.specs.declared.work.Work.{Work}
use Rattle.elab_equality.specs.Reflecting.{IsImageOf, IsReflected}
use Rattle.elab_equality.specs.Linked.{EndsIn}
use Rattle.elab_equality.specs.Walking.{EndsByEither}
use Rattle.elab_equality.specs.Work.{IsDone, IsWork}
use Rattle.elab_equality.proofs.ClauseLemmas.{same_clause}
use Rattle.elab_equality.proofs.LiteralTerms.{literal_term}
use Rattle.elab_equality.proofs.EndingLemmas.{ended_either, sides_later}
use Rattle.elab_equality.proofs.ReflectLemmas.{refl_closes, refl_met, same_anchors}
use Rattle.elab_equality.proofs.ScopeLemmas.{image_later}
use Rattle.elab_equality.proofs.TransLemmas.{HasFewForms}
use Rattle.elab_equality.proofs.WorkLemmas.{done_then}

no_items : {X Y : Type 0} (f : X → Y) (xs : List X) → map f xs ≡ [] → xs ≡ []
no_items f [] e = refl
no_items f (x ∷ xs) e = cc

module _ (p : Site) (v : TermsView) (job : IsToElaborate p v) (rule : rule_of_command p ≡ Rule.Refl) (x : Reflected) (h : IsReflected p v x) where
  abbrev roots : List ℕ
  roots = literals_of_command p ++ x.left_image ∷ x.right_image ∷ []

  -- the one literal of the command
  one_literal : (t : Term) → IsLiteralOfCommand p v t → t ≡ equality h.ends.left h.ends.right
  one_literal t k = go (literal_there p v job t k)
    where
      whole : clause_at job.proof p.command ≡ equality h.ends.left h.ends.right ∷ []
      whole =
          let met = refl_met p v job rule in
          met.literal ∙ ap (λ u. u ∷ []) (same_clause p v job x.left x.right h.ends met.left met.right met.literal)

      go : Contains (clause_at job.proof p.command) t ⊎ ((j : ℕ) × Contains (premises_at job.proof p.command) j × Contains (clause_at job.proof j) t)
          → t ≡ equality h.ends.left h.ends.right
      go (inl own) = elim (contains_cases (equality h.ends.left h.ends.right) t [] (subst (λ ts. Contains ts t) whole own)) [
        | inl same ↦ sym same
        | inr none ↦ absurd (contains_none t none)
      ]
      go (inr (j, among, has)) =
          absurd (contains_none j (subst (λ js. Contains js j) (no_items (clause_at job.proof) (premises_at job.proof p.command) (refl_met p v job rule).none) among))

  either_side : (t u : Term) → AreEquated p v t u → (t ≡ h.ends.left) × (u ≡ h.ends.right)
  either_side t u (inl k) = let e = one_literal (equality t u) k in (cc, cc)
  either_side t u (inr k) = let e = one_literal (not_of (equality t u)) k in absurd (cc)

  is_side : (t u : Term) → IsPutIn p v t u → (t ≡ h.ends.left) ⊎ (t ≡ h.ends.right)
  is_side t u k = elim k.side [ inl a ↦ inl (either_side t k.other a).0 | inr b ↦ inr (either_side k.other t b).1 ]

  -- what a side becomes is its image
  becomes : (r q : ℕ) (i : IsImageOf p v r q) (t u : Term) → IsPutIn p v t u → t ≡ i.term → (s : ℕ) → RefersTo p.symbols.now v s u → s ≡ q
  becomes r q i t u k same s refers =
      let anchors : k.anchors ≡ i.put_in.anchors =
      sym (same_anchors p v job rule k.anchors k.anchors_stand) ∙ same_anchors p v job rule i.put_in.anchors i.put_in.anchors_stand in
      let e : u ≡ i.image =
      k.is ∙ (ap (λ a. put_in (images a) t) anchors ∙ (ap (put_in (images i.put_in.anchors)) same ∙ sym i.put_in.is)) in
      (equal_where p.symbols.now v job.table job.known s q u i.image refers i.image_refers).1 e

  left_same : h.ends.left ≡ h.left_is.term
  left_same = (equal_where p.symbols.now v job.table job.known x.left x.left h.ends.left h.left_is.term h.ends.left_refers h.left_is.refers).0 refl

  right_same : h.ends.right ≡ h.right_is.term
  right_same = (equal_where p.symbols.now v job.table job.known x.right x.right h.ends.right h.right_is.term h.ends.right_refers h.right_is.refers).0 refl

  root_among : (r : ℕ) → IsRootOf p v r → Contains roots r
  root_among r (literal k) = Contains-append_left (literals_of_command p) (x.left_image ∷ x.right_image ∷ []) r k
  root_among r (asserted t k) = absurd (let clash : Rule.Refl ≡ Rule.Assume = sym rule ∙ k.rule in cc)
  root_among r (side t u k refers) =
      Contains-append_right (literals_of_command p) (x.left_image ∷ x.right_image ∷ []) r
      (elim (is_side t u k) [
        | inl left ↦ subst (Contains (x.left_image ∷ x.right_image ∷ [])) (sym (becomes x.left x.left_image h.left_is t u k (left ∙ left_same) r refers))
            (contains_head x.left_image (x.right_image ∷ []))
        | inr right ↦ subst (Contains (x.left_image ∷ x.right_image ∷ [])) (sym (becomes x.right x.right_image h.right_is t u k (right ∙ right_same) r refers))
            (contains_later x.left_image x.right_image (x.right_image ∷ []) (contains_head x.right_image []))
      ])

  record IsGoodRoot (r : ℕ) : Type 0 where
    is : IsRootOf p v r
    term : IsTerm p.symbols.now v r

  image_root : (r q : ℕ) → IsImageOf p v r q → IsGoodRoot q
  image_root r q i = record { is = side i.term i.image i.put_in i.image_refers; term = record { means = i.image; refers = i.image_refers } }

  good_root : (r : ℕ) → Contains roots r → IsGoodRoot r
  good_root r has = elim (Contains-append_cases (literals_of_command p) (x.left_image ∷ x.right_image ∷ []) r has) [
    | inl one ↦ record { is = literal one; term = literal_term p v job r one }
    | inr other ↦ elim (contains_cases x.left_image r (x.right_image ∷ []) other) [
      | inl left ↦ subst IsGoodRoot left (image_root x.left x.left_image h.left_is)
      | inr later ↦ elim (contains_cases x.right_image r [] later) [
        | inl right ↦ subst IsGoodRoot right (image_root x.right x.right_image h.right_is)
        | inr none ↦ absurd (contains_none r none)
      ]
    ]
  ]

  pub refl_few : (w : Work) → IsWork p v w
      → ((rs : List ℕ) (trees : List Tree) (n : ℕ) → ((r : ℕ) → IsRemembered w.forms r → IsCellWithinAny p.symbols.now v rs r)
      → KnowsAll v.pass rs trees → CountsCells trees n → count_of w.forms ≤ n)
      → length w.block ≤ 3 * count_of w.forms + 5 → IsFew p v (length w.block)
  refl_few w work cells bound =
      few_of p v roots (count_of w.forms) 0 (length w.block) (record {
        are = λ r has. (good_root r has).is;
        terms = λ r has. (good_root r has).term;
        few = λ trees m known counts. cells roots trees m (λ r k. let cell = work.met r k in record {
          root = cell.root;
          among = root_among cell.root cell.is;
          within = cell.within;
        }) known counts;
        narrow = λ trees m known counts. omega arith;
        bound = omega (arith, bound);
      })

-- the steps, whole
pub reflected_later : (p : Site) (v w : TermsView) → KeepsTerms v w → (x : Reflected) → IsReflected p v x → IsReflected p w x
reflected_later p v w keeps x h = record {
  ends = sides_later p v w x.left x.right keeps h.ends;
  left_is = image_later p v w keeps x.left x.left_image h.left_is;
  right_is = image_later p v w keeps x.right x.right_image h.right_is;
}

module _ {X Y : Type 0} (p : Site) (u v w : TermsView) (job : IsToElaborate p u) (one : IsOneToOne w.pass) (rule : rule_of_command p ≡ Rule.Refl) (x : Reflected)
    (h : IsReflected p u x) (a b c : Work) (l : X) (k : Y) (none : a.block ≡ []) (nothing : count_of a.forms ≡ 0)
    (first : IsDone p u v a b 4 (Ok l)) (last : IsDone p v w b c 1 (Ok k)) where
  whole : IsDone p u w a c 5 (Ok k)
  whole = done_then 5 (omega arith) first last

  bound : length c.block ≤ 3 * count_of c.forms + 5
  bound =
      let few = whole.moved.few in
      let empty : length a.block ≡ 0 = ap length none in
      omega (arith, few, empty, nothing)

  pub refl_block : EndsIn p w c.block x.left x.right → EndsByEither c.block → HasFewForms p w c → IsBlockFor p w c.block
  refl_block ends by cells =
      let later = command_later p u w whole.keeps one job in
      let here = reflected_later p u w whole.keeps x h in
      ended_either p w later (refl_closes p u job rule) c whole.moved.work x.left x.right here.ends ends
      (refl_few p w later rule x here c whole.moved.work cells bound)
      by
