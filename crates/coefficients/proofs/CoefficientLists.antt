-- Coefficients one after another.
use Rattle.std.proofs.Common.{◌≡◌, List, [], ◌∷◌, Option, Some, None, option_map, option_and_then, Result, Ok, Err, refl, sym, ap, ◌∙◌}
use Rattle.std.proofs.lemmas.List.{append_assoc, append-nil}
use Rattle.sexpr.specs.declared.causes.Refusal.{Refusal}
use Rattle.sexpr.specs.Items.{Item, Items, no_items, item}
use Rattle.rule_model.specs.Proofs.{Fraction}
use Rattle.text_items.proofs.ItemsAtLemmas.{items_are, no_items_are}
use Rattle.problem_text.specs.Sorts.{result_then}
use Rattle.alethe_text.specs.Coefficients.{coefficient_of, coefficient_read, coefficients_from}
use Rattle.coefficients.specs.Prefixes.{with_one, behind_prefix}

abbrev then_rest : Option Fraction → Option (List Fraction) → Option (List Fraction)
then_rest q qs = option_and_then (λ first. option_map (λ others. first ∷ others) qs) q

one_more : (read : Option (List Fraction)) (q : Option Fraction) (rest : Result (Option (List Fraction)) Refusal) → behind_prefix read (result_then rest (λ qs. Ok (then_rest q qs))) ≡ behind_prefix (with_one read q) rest
one_more None None (Ok None) = refl
one_more None None (Ok (Some qs)) = refl
one_more None (Some q) (Ok None) = refl
one_more None (Some q) (Ok (Some qs)) = refl
one_more (Some ps) None (Ok None) = refl
one_more (Some ps) None (Ok (Some qs)) = refl
one_more (Some ps) (Some q) (Ok None) = refl
one_more (Some ps) (Some q) (Ok (Some qs)) = ap (λ xs. Ok (Some xs)) (sym (append_assoc ps (q ∷ []) qs))
one_more None None (Err refusal) = refl
one_more None (Some q) (Err refusal) = refl
one_more (Some ps) None (Err refusal) = refl
one_more (Some ps) (Some q) (Err refusal) = refl

-- the first of the arguments that are left is read
pub read_one : (read : Option (List Fraction)) (i : Item) (rest : Items) (q : Option Fraction) → coefficient_read (coefficient_of i) ≡ Ok q → behind_prefix read (coefficients_from (item i rest)) ≡ behind_prefix (with_one read q) (coefficients_from rest)
unfolding coefficients_from
read_one read i rest q e =
    ap (λ (r : Result (Option Fraction) Refusal). behind_prefix read (result_then r (λ q. result_then (coefficients_from rest) (λ qs. Ok (then_rest q qs))))) e ∙ one_more read q (coefficients_from rest)

-- or it has a fault
pub read_fault : (read : Option (List Fraction)) (i : Item) (rest : Items) (refusal : Refusal) → coefficient_read (coefficient_of i) ≡ Err refusal → behind_prefix read (coefficients_from (item i rest)) ≡ Err refusal
unfolding coefficients_from
read_fault read i rest refusal e =
    ap (λ (r : Result (Option Fraction) Refusal). behind_prefix read (result_then r (λ q. result_then (coefficients_from rest) (λ qs. Ok (then_rest q qs))))) e

pub all_read : (read : Option (List Fraction)) → behind_prefix read (coefficients_from no_items) ≡ Ok read
unfolding coefficients_from
all_read None = refl
all_read (Some qs) = ap (λ xs. Ok (Some xs)) (append-nil qs)

-- whether an argument is left, and what the first adds
pub ruleset arguments_read = (items_are, no_items_are, read_one, read_fault, all_read)
