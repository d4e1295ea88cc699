-- What follows from clauses follows from clauses that are the same sets of literals.
use Rattle.std.proofs.Common.{◌≡◌, ◌⊎◌, ◌↔◌, inl, inr, ℕ, zero, suc, ◌<◌, List, [], ◌∷◌, ◌++◌, length, get_or, sym, ◌∙◌, arith, All, Contains}
use Rattle.std.specs.List.{AllZip}
use Rattle.std.proofs.lemmas.List.{get_or_default}
use Rattle.std.proofs.lemmas.List.Elements.{All-contains, Contains-get_or, Contains-append_left, Contains-push, Contains-push_cases}
use Rattle.rule_model.specs.declared.literal.Literal.{Literal}
use Rattle.rule_model.specs.declared.literal.Literal.TheVariants.{Never}
use Rattle.rule_model.specs.Literals.{negation_of, IsSameClause}
use Rattle.rule_model.specs.Consequence.{IsFalse, literal_at, premise_at, literal_of, IsOnly, IsUnit, Leads, Follows}
use Rattle.rule_model.proofs.Renamings.{zip_flipped}
use Rattle.term_model.proofs.Zips.{zip_length}

same_flipped : {A : Type 0} (c d : List (Literal A)) → IsSameClause c d → IsSameClause d c
same_flipped c d same l = ((same l).1, (same l).0)

same_here : {A : Type 0} (ps qs : List (List (Literal A))) (i : ℕ) → AllZip IsSameClause ps qs → i < length ps → IsSameClause (premise_at ps i) (premise_at qs i)
same_here [] [] i z h = absurd (omega (arith, h))
same_here [] (d ∷ ds) i z h = absurd z
same_here (c ∷ cs) [] i z h = absurd z
same_here (c ∷ cs) (d ∷ ds) zero z h = z.0
same_here (c ∷ cs) (d ∷ ds) (suc i) z h = same_here cs ds i z.1 (omega (arith, h))

false_there : {A : Type 0} (fs gs : List (Literal A)) (l : Literal A) → IsSameClause fs gs → IsFalse fs l → IsFalse gs l
false_there fs gs l same (inl never) = inl never
false_there fs gs l same (inr c) = inr ((same l).0 c)

-- one literal more
pushed_one_way : {A : Type 0} (fs gs : List (Literal A)) (l : Literal A) → IsSameClause fs gs → (m : Literal A) → Contains (fs ++ l ∷ []) m → Contains (gs ++ l ∷ []) m
pushed_one_way fs gs l same m c =
    elim (Contains-push_cases fs l m c) [
      | inl before ↦ Contains-append_left gs (l ∷ []) m ((same m).0 before)
      | inr last ↦ rw (← last) (Contains-push gs l)
    ]

same_pushed : {A : Type 0} (fs gs : List (Literal A)) (l : Literal A) → IsSameClause fs gs → IsSameClause (fs ++ l ∷ []) (gs ++ l ∷ [])
same_pushed fs gs l same m = (pushed_one_way fs gs l same m, pushed_one_way gs fs l (same_flipped fs gs same) m)

-- what holds of each literal of a clause holds of each of the other
all_there : {A : Type 0} (P : Literal A → Type 0) (c d : List (Literal A)) → IsSameClause c d → All P c → All P d
all_there P c d same all k e h = All-contains P c (get_or d k e) all ((same (get_or d k e)).1 (Contains-get_or d k e h))

only_there : {A : Type 0} (fs gs c d : List (Literal A)) (j k : ℕ) → IsSameClause fs gs → IsSameClause c d → k < length d → literal_at d k ≡ literal_at c j → IsOnly fs c j → IsOnly gs d k
only_there fs gs c d j k same clause h e only =
    record {
      place = h;
      not_false = λ gone. only.not_false (false_there gs fs (literal_at c j) (same_flipped fs gs same) (rw (← e) gone));
      others = all_there (λ l. IsFalse gs l ⊎ (l ≡ literal_at d k)) c d clause
          (λ i x within. elim (only.others i x within) [ inl gone ↦ inl (false_there fs gs _ same gone) | inr here ↦ inr (here ∙ sym e) ]);
    }

-- the only literal of a premise stands somewhere in the other premise, and is the only one there
unit_there : {A : Type 0} (ps qs : List (List (Literal A))) (fs gs : List (Literal A)) (u : ℕ × ℕ) → AllZip IsSameClause ps qs → IsSameClause fs gs → IsUnit ps fs u.0 u.1 → (k : ℕ) × IsUnit qs gs u.0 k × (literal_of qs (u.0, k) ≡ literal_of ps u)
unit_there ps qs fs gs u zs same unit = (
  place.0,
  record {
    place = (let long = zip_length IsSameClause ps qs zs in let p = unit.place in omega arith);
    only = only_there fs gs (premise_at ps u.0) (premise_at qs u.0) u.1 place.0 same clause place.1 there unit.only;
  },
  there,
)
  where
    clause : IsSameClause (premise_at ps u.0) (premise_at qs u.0)
    clause = same_here ps qs u.0 zs unit.place

    place : Contains (premise_at qs u.0) (literal_of ps u)
    place = (clause (literal_of ps u)).0 (Contains-get_or (premise_at ps u.0) u.1 Never unit.only.place)

    there : literal_at (premise_at qs u.0) place.0 ≡ literal_of ps u
    there = get_or_default (premise_at qs u.0) place.0 Never (literal_of ps u) place.1 ∙ place.2

leads_there : {A : Type 0} (ps qs : List (List (Literal A))) → AllZip IsSameClause ps qs → (fs gs : List (Literal A)) (units : List (ℕ × ℕ)) (last : ℕ) → IsSameClause fs gs → Leads ps fs units last → (others : List (ℕ × ℕ)) × Leads qs gs others last
leads_there ps qs zs fs gs [] last same conflict = (
  [],
  record {
    place = (let long = zip_length IsSameClause ps qs zs in let p = conflict.place in omega arith);
    all_false = all_there (IsFalse gs) (premise_at ps last) (premise_at qs last) (same_here ps qs last zs conflict.place)
        (λ k x h. false_there fs gs _ same (conflict.all_false k x h));
  },
)
leads_there ps qs zs fs gs (u ∷ us) last same leads =
    let first = unit_there ps qs fs gs u zs same leads.0 in
    let rest = leads_there ps qs zs (fs ++ negation_of (literal_of ps u) ∷ []) (gs ++ negation_of (literal_of ps u) ∷ []) us last (same_pushed fs gs (negation_of (literal_of ps u)) same) leads.1 in
    ((u.0, first.0) ∷ rest.0, (first.1, rw first.2 rest.1))

follows_there : {A : Type 0} (ps qs : List (List (Literal A))) (g h : List (Literal A)) → AllZip IsSameClause ps qs → IsSameClause g h → Follows ps g → Follows qs h
follows_there ps qs g h zs same (inl (l, c, gone)) = inl (l, (same l).0 c, false_there g h (negation_of l) same gone)
follows_there ps qs g h zs same (inr (units, last, leads)) =
    let other = leads_there ps qs zs g h units last same leads in inr (other.0, last, other.1)

pub follows_by_sets : {A : Type 0} (ps qs : List (List (Literal A))) (g h : List (Literal A)) → AllZip IsSameClause ps qs → IsSameClause g h → Follows ps g ↔ Follows qs h
follows_by_sets ps qs g h zs same = (
  follows_there ps qs g h zs same,
  follows_there qs ps h g (zip_flipped IsSameClause IsSameClause same_flipped ps qs zs) (same_flipped g h same),
)
