-- Private. A proof each of whose commands is Ok by some of the assertions is Ok by all of them.
use Rattle.std.proofs.Common.{◌≡◌, inl, inr, ℕ, zero, suc, ◌+◌, Option, Some, None, List, [], ◌∷◌, slice_get, replicate, refl, sym, subst, arith}
use Rattle.std.specs.Prelude.{Contains}
use Rattle.std.specs.Option.{option_map_or}
use Rattle.std.proofs.lemmas.List.Elements.{All-weaker, All-replicate}
use Rattle.std.proofs.lemmas.Option.{slice_get_within, get_or_from_slice_get}
use Rattle.term_model.specs.Terms.{Var, Term}
use Rattle.term_model.proofs.Basics.{same_some}
use Rattle.term_model.proofs.Lists.{contains_none, contains_cases}
use Rattle.rule_model.specs.declared.kinds.Kind.{Kind}
use Rattle.rule_model.specs.declared.rules.Mode.{Mode}
use Rattle.rule_model.specs.declared.statuses.Status.{Status}
use Rattle.rule_model.specs.declared.statuses.Verdict.{Verdict}
use Rattle.rule_model.specs.Proofs.{ProofItems}
use Rattle.rule_model.specs.Reading.{rule_at, clause_at, scope_at}
use Rattle.rule_model.specs.Scopes.{commands_in}
use Rattle.rule_model.specs.Statuses.{Checking, IsAsserted, kind_of_rule, IsStatusBy, AreStatuses, IsVerdict}
use Rattle.pruned_proofs.specs.Core.{chosen, checking_for}

-- what is chosen is there
contains_at : {X : Type 0} (xs : List X) (n : ℕ) (x : X) → slice_get xs n ≡ Some x → Contains xs x
contains_at xs n x there = (n, slice_get_within xs n x there, get_or_from_slice_get xs n x x there)

chosen_among : {X : Type 0} (xs : List X) (numbers : List ℕ) (x : X) → Contains (chosen xs numbers) x → Contains xs x
chosen_among xs [] x has = absurd (contains_none x has)
chosen_among {X} xs (n ∷ numbers) x has = go (slice_get xs n) refl has (λ more. chosen_among xs numbers x more)
  where
    go : (o : Option X) → slice_get xs n ≡ o → Contains (option_map_or (λ x. x ∷ chosen xs numbers) o (chosen xs numbers)) x
        → (Contains (chosen xs numbers) x → Contains xs x) → Contains xs x
    go None e has later = later has
    go (Some y) e has later =
        elim (contains_cases y x (chosen xs numbers) has) [ inl same ↦ subst (Contains xs) same (contains_at xs n y e) | inr more ↦ later more ]

asserted_by_more : (mode : Mode) (assertions : List Term) (numbers : List ℕ) (t : Term) → IsAsserted mode (chosen assertions numbers) t
    → IsAsserted mode assertions t
asserted_by_more Mode.Check assertions numbers t (k, a, less, there, equal) =
    let among : Contains assertions a = chosen_among assertions numbers a (k, less, there) in (among.0, a, among.1, among.2, equal)
asserted_by_more Mode.Strict assertions numbers t h = chosen_among assertions numbers t h

ok_by_more : (kind : Kind) (c : Checking) (numbers : List ℕ) (proof : ProofItems Var Term) (i : ℕ) → IsStatusBy kind (checking_for c numbers) proof i Status.Ok
    → IsStatusBy kind c proof i Status.Ok
ok_by_more Kind.Assumed c numbers proof i h =
    λ outer. All-weaker (IsAsserted c.mode (chosen c.assertions numbers)) (IsAsserted c.mode c.assertions)
    (λ t is. asserted_by_more c.mode c.assertions numbers t is) (clause_at proof i) (h outer)
ok_by_more Kind.Hole c numbers proof i h = absurd h
ok_by_more Kind.Unknown c numbers proof i h = absurd h
ok_by_more (Kind.Judged family) c numbers proof i h = h

only_ok : (n i : ℕ) (status : Status) → slice_get (replicate n Status.Ok) i ≡ Some status → Status.Ok ≡ status
only_ok zero i status e = absurd (cc)
only_ok (suc n) zero status e = same_some e
only_ok (suc n) (suc i) status e = only_ok n i status e

pub ok_with_all : (c : Checking) (numbers : List ℕ) (proof : ProofItems Var Term) (n : ℕ) → AreStatuses (checking_for c numbers) proof (replicate n Status.Ok)
    → AreStatuses c proof (replicate n Status.Ok)
ok_with_all c numbers proof n are = record {
  count = are.count;
  each = λ i status there.
      let ok : Status.Ok ≡ status = only_ok n i status there in
      subst (λ z. IsStatusBy (kind_of_rule c (rule_at proof i)) c proof i z) ok
      (ok_by_more (kind_of_rule c (rule_at proof i)) c numbers proof i
      (subst (λ z. IsStatusBy (kind_of_rule c (rule_at proof i)) (checking_for c numbers) proof i z) (sym ok) (are.each i status there)));
}

-- a proof whose last command is of the outermost scope and has the empty clause is valid
pub valid_to_end : (proof : ProofItems Var Term) (last : ℕ) → commands_in proof ≡ last + 1 → scope_at proof last ≡ 0 → clause_at proof last ≡ []
    → IsVerdict (replicate (commands_in proof) Status.Ok) proof Verdict.Valid
valid_to_end proof last end scope empty = (
  All-replicate (λ s. s ≡ Status.Ok) (commands_in proof) Status.Ok refl,
  record { index = last; within = omega (arith, end); scope = scope; empty = empty },
)
