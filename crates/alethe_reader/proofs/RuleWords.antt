-- The rule that a word names, by a list that is gone through.
use Rattle.std.proofs.Common.{◌≡◌, ℕ, zero, suc, ◌≤◌, Bool, true, false, not, ◌&&◌, List, [], ◌∷◌, length, drop, slice_get, Some, if◌then◌else◌, refl, ap, subst, arith}
use Rattle.std.proofs.lemmas.Bool.{and_parts}
use Rattle.std.specs.List.{list_all}
use Rattle.std.specs.Str.{bytes_eq}
use Rattle.rule_model.specs.declared.rules.Rule.{Rule}
use Rattle.rule_model.specs.RuleNames.{word_of, is_unknown, rule_among}
use Rattle.rule_model.specs.Reading.{is_assume}
use Rattle.alethe_reader.specs.RuleLengths.{has_word}

pub among_here : (rules : List Rule) (k : ℕ) (r : Rule) (word : List ℕ) → slice_get rules k ≡ Some r → rule_among (drop k rules) word ≡ (if bytes_eq (word_of r) word then r else rule_among (drop (suc k) rules) word)
among_here [] k r word e = absurd (cc)
among_here (x ∷ rules) zero r word e = ap (λ y. if bytes_eq (word_of y) word then y else rule_among rules word) (inside e)
  where
    inside : Some x ≡ Some r → x ≡ r
    inside e = cc
among_here (x ∷ rules) (suc k) r word e = among_here rules k r word e

pub among_none : (rules : List Rule) (k : ℕ) (word : List ℕ) → length rules ≤ k → rule_among (drop k rules) word ≡ Rule.Unknown
among_none [] zero word h = refl
among_none [] (suc k) word h = refl
among_none (x ∷ rules) zero word h = absurd (omega (arith, h))
among_none (x ∷ rules) (suc k) word h = among_none rules k word (omega (arith, h))

both : (a b : Bool) → (not a && not b) ≡ true → (a ≡ false) × (b ≡ false)
both false false e = (refl, refl)
both false true e = absurd (cc)
both true b e = absurd (cc)

-- a rule of a list, all of which have a word
pub has_word_there : (rules : List Rule) (k : ℕ) (r : Rule) → list_all has_word rules ≡ true → slice_get rules k ≡ Some r → (is_assume r ≡ false) × (is_unknown r ≡ false)
has_word_there [] k r all e = absurd (cc)
has_word_there (x ∷ rules) zero r all e = both (is_assume r) (is_unknown r) (subst (λ y. has_word y ≡ true) (inside e) (and_parts (has_word x) (list_all has_word rules) all).0)
  where
    inside : Some x ≡ Some r → x ≡ r
    inside e = cc
has_word_there (x ∷ rules) (suc k) r all e = has_word_there rules k r (and_parts (has_word x) (list_all has_word rules) all).1 e
