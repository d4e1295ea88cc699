-- Cited by crates above. The literals of a command over terms, and where steps may be added for it.
use Rattle.std.proofs.Common.{◌≡◌, ◌<◌, ◌≤◌, ◌⊎◌, inl, inr, ℕ, List, [], ◌∷◌, ◌++◌, map, flat_map, All, Contains, refl, sym, ◌∙◌, subst}
use Rattle.std.specs.List.{AllZip, AllByRecursion}
use Rattle.std.proofs.lemmas.List.Elements.{All-contains_itself, All-weaker, Contains-append_cases}
use Rattle.pair_pool.specs.Views.{IsOneToOne}
use Rattle.sym_table.specs.Table.{Table, IsTable}
use Rattle.term_model.proofs.Lists.{contains_cases, contains_head, contains_later, contains_none}
use Rattle.term_model.specs.declared.symbols.Sort.{Sort}
use Rattle.term_model.specs.Heights.{height}
use Rattle.term_model.specs.Sorts.{IsOf}
use Rattle.term_model.specs.Terms.{Var, Term}
use Rattle.term_pool.proofs.TermLemmas.{equal_where}
use Rattle.term_pool.specs.Views.{TermsView, RefersTo, ReferToAll}
use Rattle.proof_store.specs.Meaning.{StandForItems}
use Rattle.proof_store.proofs.MeaningLemmas.{commands_same}
use Rattle.rule_model.specs.Contexts.{IsClosedUnder}
use Rattle.rule_model.specs.Judged.{anchors_at}
use Rattle.rule_model.specs.Elaboration.{IsLowProof}
use Rattle.rule_model.specs.Proofs.{ProofItems}
use Rattle.rule_model.specs.Reading.{clause_at, closes_at, premises_at}
use Rattle.rule_model.specs.Scopes.{commands_in}
use Rattle.rule_model.specs.Truth.{IsWellSortedProof}
use Rattle.rule_model.specs.WellFormed.{IsWellFormed}
use Rattle.elaborator.specs.Sources.{own_anchors}
use Rattle.elaboration_laws.specs.StrictBlocks.{AnchorsStand, MayBeLiteral}
use Rattle.elaboration_laws.proofs.Anchors.{own_list, own_stand}
use Rattle.elaboration_laws.proofs.Forming.{formed_over_terms}
use Rattle.elaboration_laws.proofs.Reading.{clause_stands, closes_same, premises_same}
use Rattle.equality_steps.specs.Sites.{AreLiteralsAt, IsClosedAt, IsLiteralAt, IsSite}
use Rattle.equality_steps.specs.declared.site.Site.{Site}
use Rattle.equality_steps.proofs.LawLemmas.{closed_under}
use Rattle.equality_blocks.specs.Commands.{IsToElaborate, IsLiteralOfCommand, clause_of_command}
use Rattle.equality_blocks.proofs.ClosedLiterals.{given_closed, given_low, own_low, premise_sorted}

-- what one of some references stands for is among the terms for which they do
pub referred_among : (s : Table) (v : TermsView) → IsTable s → IsOneToOne v.pass → (rs : List ℕ) (ts : List Term) → ReferToAll s v rs ts → (r : ℕ) (t : Term)
    → Contains rs r → RefersTo s v r t → Contains ts t
referred_among s v table one [] ts h r t has refers = absurd (contains_none r has)
referred_among s v table one (x ∷ rs) [] h r t has refers = absurd h
referred_among s v table one (x ∷ rs) (u ∷ ts) h r t has refers = elim (contains_cases x r rs has) [
  | inl same ↦ subst (Contains (u ∷ ts)) ((equal_where s v table one x r u t h.0 refers).0 same) (contains_head u ts)
  | inr later ↦ contains_later u t ts (referred_among s v table one rs ts h.1 r t later refers)
]

in_some : (refs : ProofItems ℕ ℕ) (js : List ℕ) (r : ℕ) → Contains (flat_map (clause_at refs) js) r → (j : ℕ) × Contains js j × Contains (clause_at refs j) r
in_some refs [] r h = absurd (contains_none r h)
in_some refs (j ∷ js) r h = elim (Contains-append_cases (clause_at refs j) (flat_map (clause_at refs) js) r h) [
  | inl here ↦ (j, contains_head j js, here)
  | inr later ↦ let rest = in_some refs js r later in (rest.0, contains_later j rest.0 js rest.1, rest.2)
]

module _ (p : Site) (v : TermsView) (h : IsToElaborate p v) where
  pub formed_terms : IsWellFormed h.proof
  formed_terms = formed_over_terms p.symbols.now v h.table p.proof.now h.proof h.stand h.formed

  pub within_terms : p.command < commands_in h.proof
  within_terms = subst (λ n. p.command < n) (commands_same p.symbols.now v p.proof.now h.proof h.stand) h.within

  -- a literal of the command or of a premise's clause, over terms
  pub literal_there : (t : Term) → IsLiteralOfCommand p v t
      → Contains (clause_at h.proof p.command) t ⊎ ((j : ℕ) × Contains (premises_at h.proof p.command) j × Contains (clause_at h.proof j) t)
  literal_there t k =
      go (Contains-append_cases (clause_of_command p) (flat_map (clause_at p.proof.now) (premises_at p.proof.now p.command)) k.reference k.among)
    where
      there : (j : ℕ) → Contains (clause_at p.proof.now j) k.reference → Contains (clause_at h.proof j) t
      there j has =
          referred_among p.symbols.now v h.table h.known (clause_at p.proof.now j) (clause_at h.proof j)
          (clause_stands p.symbols.now v p.proof.now h.proof h.stand j) k.reference t has k.refers

      go : Contains (clause_of_command p) k.reference ⊎ Contains (flat_map (clause_at p.proof.now) (premises_at p.proof.now p.command)) k.reference
          → Contains (clause_at h.proof p.command) t ⊎ ((j : ℕ) × Contains (premises_at h.proof p.command) j × Contains (clause_at h.proof j) t)
      go (inl own) = inl (there p.command own)
      go (inr given) =
          let found = in_some p.proof.now (premises_at p.proof.now p.command) k.reference given in
          inr (
            found.0,
            subst (λ js. Contains js found.0) (premises_same p.symbols.now v p.proof.now h.proof h.stand p.command) found.1,
            there found.0 found.2,
          )

  pub literal_low : (height_limit : ℕ) → IsLowProof height_limit h.proof → (t : Term) → IsLiteralOfCommand p v t → height t ≤ height_limit
  literal_low n low t k = elim (literal_there t k) [
    | inl own ↦ own_low h.proof formed_terms p.command within_terms n low t own
    | inr given ↦ given_low h.proof formed_terms p.command within_terms n low given.0 given.1 t given.2
  ]

  -- where steps are added
  abbrev pub own : List (List (Var × Term))
  own = own_list (closes_at p.proof.now p.command) (anchors_at h.proof p.command)

  pub own_anchors_stand : AnchorsStand p.symbols.now v (own_anchors p.proof.now p.command) own
  own_anchors_stand = own_stand p.symbols.now v p.proof.now h.proof h.stand p.command

  pub site_there : IsSite p v
  site_there = record {
    anchors = own;
    anchors_stand = own_anchors_stand;
    premises = λ i has. record {
      clause = clause_at h.proof i;
      refer = clause_stands p.symbols.now v p.proof.now h.proof h.stand i;
      fit = All-weaker (Contains (clause_at h.proof i)) (IsLiteralAt p) (fits i has) (clause_at h.proof i) (All-contains_itself (clause_at h.proof i));
    };
  }
    where
      fits : (i : ℕ) → Contains (premises_at p.proof.now p.command) i → (t : Term) → Contains (clause_at h.proof i) t → IsLiteralAt p t
      fits i has t there =
          let among = subst (λ js. Contains js i) (premises_same p.symbols.now v p.proof.now h.proof h.stand p.command) has in
          let closed = given_closed h.proof formed_terms p.command within_terms h.sorted i among t there in
          let same = closes_same p.symbols.now v p.proof.now h.proof h.stand p.command in (
            premise_sorted h.proof formed_terms p.command within_terms h.sorted i among t there,
            (closed_under p v own t own_anchors_stand).1
                (subst (λ o. IsClosedUnder (own_list o (anchors_at h.proof p.command)) t) (sym same) closed),
          )
