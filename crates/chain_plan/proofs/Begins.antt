-- Private. Marks of plain numbers, and how a plan begins that needs no premise.
use Rattle.std.proofs.Common.{◌≡◌, ◌≤◌, ◌<◌, ◌+◌, inl, inr, ℕ, zero, suc}
use Rattle.std.proofs.Common.{Bool, true, false, true≢false, List, [], ◌∷◌, ◌++◌, length, set, get_or, replicate}
use Rattle.std.proofs.Common.{refl, sym, ◌∙◌, ap, subst, arith}
use Rattle.std.proofs.lemmas.List.{length-set, length-replicate, get_or-set_same, get_or-set_other}
use Rattle.std.proofs.lemmas.List.Elements.{Contains-append_left, Contains-append_right, Contains-push_cases}
use Rattle.term_model.proofs.Lists.{contains_none, contains_head}
use Rattle.clause_chain.specs.declared.signed_term.SignedTerm.{SignedTerm}
use Rattle.chain_plan.specs.Contradicting.{AreMarks}
use Rattle.chain_plan.specs.Towers.{Towers, nots_at, HasNegation, HasRoom, plain_of}
use Rattle.chain_plan.proofs.Joining.{same_or_other}
use Rattle.chain_plan.proofs.Towers.{HasPair}

pub no_marks : (t : Towers) (n : ℕ) → n ≡ length t.nots → AreMarks t [] (replicate n false)
no_marks t n e =
    record {
      long = length-replicate n false ∙ e;
      marked = λ k is. absurd (none n k is);
      all = λ g there. absurd (contains_none g there);
    }
  where
    none : (n k : ℕ) → get_or (replicate n false) k false ≡ true → ⊥
    none zero k is = true≢false (sym is)
    none (suc n) zero is = true≢false (sym is)
    none (suc n) (suc k) is = none n k is

pub marks_more : (t : Towers) (goal : List SignedTerm) (marks : List Bool) (g : SignedTerm) → AreMarks t goal marks → plain_of t g.term < length t.nots
    → AreMarks t (goal ++ g ∷ []) (set marks (plain_of t g.term) true)
marks_more t goal marks g are within =
    record {
      long = length-set marks p true ∙ are.long;
      marked = λ k is.
          elim (same_or_other k p) [
            | inl same ↦ (g, Contains-append_right goal (g ∷ []) g (contains_head g []), same)
            | inr other ↦
                let before = are.marked k (sym (get_or-set_other marks p k true false other) ∙ is) in
                (before.0, Contains-append_left goal (g ∷ []) before.0 before.1, before.2)
          ];
      all = λ h there.
          elim (same_or_other (plain_of t h.term) p) [
            | inl same ↦ rw same marked_here
            | inr other ↦
                get_or-set_other marks p (plain_of t h.term) true false other
                ∙ elim (Contains-push_cases goal g h there) [
                  | inl before ↦ are.all h before
                  | inr here ↦ absurd (other (ap (λ (z : SignedTerm). plain_of t z.term) (sym here)))
                ]
          ];
    }
  where
    p : ℕ
    p = plain_of t g.term

    marked_here : get_or (set marks p true) p false ≡ true
    marked_here = get_or-set_same marks p true false (let e = are.long in omega arith)

-- what stands above a term that begins with no `not`, for a plan to begin with it and its negation
pub record BeginsPair (t : Towers) (n : ℕ) : Type 0 where
  pub pair : HasPair t (n + 2) n
  pub top : HasNegation t (n + 2)
  pub above_top : HasNegation t (n + 3)
  pub many : 2 ≤ nots_at t (n + 3)

pub begins_pair : (t : Towers) (n : ℕ) → HasNegation t n → HasRoom t (n + 1) → BeginsPair t n
begins_pair t n above room =
    let a : n + 1 + 1 ≡ n + 2 = omega arith in
    let b : n + 1 + 2 ≡ n + 3 = omega arith in
    let d : n + 2 + 1 ≡ n + 3 = omega arith in
    let two : HasNegation t (n + 2) = subst (HasNegation t) a room.two in
    let first = above.more in
    let second : nots_at t (n + 2) ≡ nots_at t (n + 1) + 1 = subst (λ k. nots_at t k ≡ nots_at t (n + 1) + 1) a room.one.more in
    let third : nots_at t (n + 3) ≡ nots_at t (n + 2) + 1 = subst (λ k. nots_at t k ≡ nots_at t (n + 2) + 1) d two.more in
    record {
      pair = record { is = refl; one = above; two = room.one; nots = omega arith };
      top = two;
      above_top = subst (HasNegation t) b room.three;
      many = omega arith;
    }
