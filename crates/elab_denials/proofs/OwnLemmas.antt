-- Private. The command's own literals may stand where it belongs; and how few steps there are.
use Rattle.std.proofs.Common.{◌≢◌, ◌⊎◌, inl, inr, ◌≤◌, ◌+◌, ◌*◌, ℕ, List, [], ◌∷◌, length, flat_map, All, Contains, sym, subst}
use Rattle.std.proofs.lemmas.List.Elements.{All-nil, All-cons, All-contains_itself, All-weaker, Contains-append_cases}
use Rattle.pair_pool.specs.Trees.{Tree}
use Rattle.term_model.proofs.Lists.{contains_none}
use Rattle.term_model.specs.Terms.{Term}
use Rattle.term_pool.specs.CellCounts.{CountsCells}
use Rattle.term_pool.specs.Views.{TermsView, IsTerm, KnowsAll, ReferToAll}
use Rattle.rule_model.specs.declared.rules.Rule.{Rule}
use Rattle.rule_model.specs.Contexts.{IsClosedUnder}
use Rattle.rule_model.specs.Judged.{anchors_at}
use Rattle.rule_model.specs.Proofs.{ProofItems}
use Rattle.rule_model.specs.Reading.{clause_at, closes_at, premises_at}
use Rattle.elaboration_laws.proofs.Anchors.{own_list}
use Rattle.elaboration_laws.proofs.Reading.{clause_stands, closes_same}
use Rattle.equality_steps.specs.Sites.{AreLiteralsAt, IsLiteralAt}
use Rattle.equality_steps.specs.declared.site.Site.{Site}
use Rattle.equality_steps.proofs.LawLemmas.{closed_under}
use Rattle.flip_steps.specs.Memory.{IsCellWithinAny, IsRemembered, count_of}
use Rattle.equality_blocks.specs.Commands.{IsToElaborate, clause_of_command, literals_of_command, rule_of_command}
use Rattle.equality_blocks.specs.Counts.{IsFew, IsRootOf, literal, asserted, side}
use Rattle.equality_blocks.proofs.ClosedLiterals.{own_closed, own_sorted}
use Rattle.equality_blocks.proofs.FewLemmas.{few_of}
use Rattle.equality_blocks.proofs.LiteralLemmas.{formed_terms, own_anchors_stand, within_terms}
use Rattle.elab_denials.proofs.WorkLemmas.{refer_among}
use Rattle.elab_denials.specs.declared.work.Work.{Work}
use Rattle.elab_denials.specs.Working.{IsWork}

-- where each cell whose form is remembered stands in one of some terms, there are at most as many of them as cells of these terms
abbrev pub AreOfCells : Site → TermsView → Work → Type 0
AreOfCells p v w =
    (roots : List ℕ) (trees : List Tree) (n : ℕ) → ((r : ℕ) → IsRemembered w.forms r → IsCellWithinAny p.symbols.now v roots r) →
    KnowsAll v.pass roots trees → CountsCells trees n → count_of w.forms ≤ n

in_some : (refs : ProofItems ℕ ℕ) (js : List ℕ) (r : ℕ) → Contains (flat_map (clause_at refs) js) r → (j : ℕ) × Contains (clause_at refs j) r
in_some refs [] r h = absurd (contains_none r h)
in_some refs (j ∷ js) r h = elim (Contains-append_cases (clause_at refs j) (flat_map (clause_at refs) js) r h) [
  | inl own ↦ (j, own)
  | inr later ↦ in_some refs js r later
]

module _ (p : Site) (v : TermsView) (h : IsToElaborate p v) where
  pub own_literals : AreLiteralsAt p v (clause_of_command p)
  own_literals = record {
    clause = clause_at h.proof p.command;
    refer = clause_stands p.symbols.now v p.proof.now h.proof h.stand p.command;
    fit =
        All-weaker (Contains (clause_at h.proof p.command)) (IsLiteralAt p) fits (clause_at h.proof p.command)
        (All-contains_itself (clause_at h.proof p.command));
  }
    where
      fits : (t : Term) → Contains (clause_at h.proof p.command) t → IsLiteralAt p t
      fits t has =
          let formed = formed_terms p v h in
          let within = within_terms p v h in
          let closed = own_closed h.proof formed p.command within h.sorted t has in
          let same = closes_same p.symbols.now v p.proof.now h.proof h.stand p.command in (
            own_sorted h.proof formed p.command within h.sorted t has,
            (closed_under p v (own_list (closes_at p.proof.now p.command) (anchors_at h.proof p.command)) t (own_anchors_stand p v h)).1
                (subst (λ o. IsClosedUnder (own_list o (anchors_at h.proof p.command)) t) (sym same) closed),
          )

  pub own_terms : All (IsTerm p.symbols.now v) (clause_of_command p)
  own_terms = terms (clause_of_command p) (clause_at h.proof p.command) (clause_stands p.symbols.now v p.proof.now h.proof h.stand p.command)
    where
      terms : (rs : List ℕ) (ts : List Term) → ReferToAll p.symbols.now v rs ts → All (IsTerm p.symbols.now v) rs
      terms [] ts k = All-nil (IsTerm p.symbols.now v)
      terms (r ∷ rs) [] k = absurd k
      terms (r ∷ rs) (t ∷ ts) k = All-cons (IsTerm p.symbols.now v) r rs (record { means = t; refers = k.0 }) (terms rs ts k.1)

  literal_term : (r : ℕ) → Contains (literals_of_command p) r → IsTerm p.symbols.now v r
  literal_term r has = go (Contains-append_cases (clause_of_command p) (flat_map (clause_at p.proof.now) (premises_at p.proof.now p.command)) r has)
    where
      at_command : (j : ℕ) → Contains (clause_at p.proof.now j) r → IsTerm p.symbols.now v r
      at_command j there =
          let found = refer_among p v (clause_at p.proof.now j) (clause_at h.proof j) r (clause_stands p.symbols.now v p.proof.now h.proof h.stand j) there in
          record { means = found.term; refers = found.refers }

      go : Contains (clause_of_command p) r ⊎ Contains (flat_map (clause_at p.proof.now) (premises_at p.proof.now p.command)) r → IsTerm p.symbols.now v r
      go (inl own) = at_command p.command own
      go (inr given) = let found = in_some p.proof.now (premises_at p.proof.now p.command) r given in at_command found.0 found.1

  -- where the rule is no assume and no refl, roots are literals
  root_literal : rule_of_command p ≢ Rule.Assume → rule_of_command p ≢ Rule.Refl → (r : ℕ) → IsRootOf p v r → Contains (literals_of_command p) r
  root_literal no_assume no_refl r (literal k) = k
  root_literal no_assume no_refl r (asserted t k) = absurd (no_assume k.rule)
  root_literal no_assume no_refl r (side t u k e) = absurd (no_refl k.rule)

  -- by the law of forms of cells
  pub few_work : rule_of_command p ≢ Rule.Assume → rule_of_command p ≢ Rule.Refl → (w : Work) → IsWork p v w
      → AreOfCells p v w → (places n : ℕ)
      → ((trees : List Tree) (m : ℕ) → KnowsAll v.pass (literals_of_command p) trees → CountsCells trees m → places ≤ m)
      → n ≤ 3 * count_of w.forms + 60 * (places + length (literals_of_command p) + 1) → IsFew p v n
  few_work no_assume no_refl w work cells places n narrow bound =
      few_of p v (literals_of_command p) (count_of w.forms) places n (record {
        are = λ r has. literal has;
        terms = literal_term;
        few = λ trees m known counts. cells (literals_of_command p) trees m (λ r k. let cell = work.cells r k in record {
          root = cell.root;
          among = root_literal no_assume no_refl cell.root cell.is;
          within = cell.within;
        }) known counts;
        narrow = narrow;
        bound = bound;
      })
