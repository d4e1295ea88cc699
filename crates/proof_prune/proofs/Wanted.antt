-- The terms of the assumes of the outermost scope that are kept.
use Rattle.std.proofs.Common.{◌≡◌, ◌<◌, ◌+◌, ◌&&◌, inl, inr, ℕ, nat_eq, Bool, true, false, List, [], ◌++◌, Contains, refl, ◌∙◌, ap, subst, arith}
use Rattle.std.specs.Option.{option_map, option_map_or}
use Rattle.std.proofs.lemmas.Bool.{cases_lt, eqb-true, eq-eqb}
use Rattle.std.proofs.lemmas.List.Elements.{Contains-append_left, Contains-append_right, Contains-append_cases}
use Rattle.std.proofs.lemmas.Option.{slice_get-map, slice_get_past}
use Rattle.term_model.proofs.Lists.{contains_none}
use Rattle.rule_model.specs.Commands.{Entry, entry_of, lines_in}
use Rattle.rule_model.specs.Proofs.{ProofItems}
use Rattle.rule_model.specs.Reading.{clause_of, clause_at, rule_at, scope_at, is_assume}
use Rattle.rule_model.specs.Scopes.{outermost, commands_in}
use Rattle.rule_model.proofs.Numbers.{lines_in_count}
use Rattle.pruned_proofs.specs.Reached.{is_kept}
use Rattle.pruned_proofs.proofs.Counting.{not_both}
use Rattle.proof_prune.specs.Wanted.{AreWantedTo}

all_three : (a b : Bool) (n : ℕ) → (a && (b && nat_eq n 0)) ≡ true → (a ≡ true) × (b ≡ true) × (n ≡ 0)
all_three true true n e = (refl, refl, eqb-true n 0 e)
all_three true false n e = absurd (cc)
all_three false b n e = absurd (cc)

three_all : (a b : Bool) (n : ℕ) → a ≡ true → b ≡ true → n ≡ 0 → (a && (b && nat_eq n 0)) ≡ true
three_all true true n e f g = eq-eqb n 0 g
three_all true false n e f g = absurd (cc)
three_all false b n e f g = absurd (cc)

pub none_yet : (marks : List Bool) (proof : ProofItems ℕ ℕ) → AreWantedTo marks proof 0 []
none_yet marks proof = record { only = λ r has. absurd (contains_none r has); each = λ index r less h. absurd (omega arith) }

module _ (marks : List Bool) (proof : ProofItems ℕ ℕ) (i : ℕ) (list : List ℕ) (before : AreWantedTo marks proof i list) where
  pub one_wanted : (is_kept marks i && (is_assume (rule_at proof i) && nat_eq (scope_at proof i) 0)) ≡ true → AreWantedTo marks proof (i + 1) (list ++ clause_at proof i)
  one_wanted e =
      let three = all_three (is_kept marks i) (is_assume (rule_at proof i)) (scope_at proof i) e in
      record {
        only = λ r has. elim (Contains-append_cases list (clause_at proof i) r has) [
          | inl old ↦ before.only r old
          | inr new ↦ record { index = i; assume = record { kept = three.0; scope = three.2; assume = three.1; term = new } }
        ];
        each = λ index r less h. elim (cases_lt index i) [
          | inl earlier ↦ Contains-append_left list (clause_at proof i) r (before.each index r earlier h)
          | inr later ↦ (let same : index ≡ i = omega arith in Contains-append_right list (clause_at proof i) r (subst (λ n. Contains (clause_at proof n) r) same h.term))
        ];
      }

  pub none_wanted : (is_kept marks i && (is_assume (rule_at proof i) && nat_eq (scope_at proof i) 0)) ≡ false → AreWantedTo marks proof (i + 1) list
  none_wanted e = record {
    only = before.only;
    each = λ index r less h. elim (cases_lt index i) [
      | inl earlier ↦ before.each index r earlier h
      | inr later ↦ (let same : index ≡ i = omega arith in absurd (not_both (three_all (is_kept marks i) (is_assume (rule_at proof i)) (scope_at proof i)
          (subst (λ n. is_kept marks n ≡ true) same h.kept) (subst (λ n. is_assume (rule_at proof n) ≡ true) same h.assume) (subst (λ n. scope_at proof n ≡ 0) same h.scope)) e))
    ];
  }

-- past the end there is no term
pub term_within : (proof : ProofItems ℕ ℕ) (index r : ℕ) → Contains (clause_at proof index) r → index < commands_in proof
term_within proof index r has =
    elim (cases_lt index (commands_in proof)) [
      | inl less ↦ less
      | inr past ↦ absurd (let count = lines_in_count outermost proof in
          let none = slice_get-map entry_of (lines_in outermost proof) index ∙ ap (option_map entry_of) (slice_get_past (lines_in outermost proof) index (omega arith)) in
          contains_none r (subst (λ ts. Contains ts r) (ap (λ e. option_map_or (λ (e : Entry ℕ). clause_of e.command) e []) none) has))
    ]
