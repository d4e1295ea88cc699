-- The rules and their words.
use Rattle.std.proofs.Common.{◌≡◌, ◌≢◌, ◌⊎◌, inl, inr, ℕ, List, [], ◌∷◌, Bool, true, false, ◌&&◌, Contains, refl, sym, ◌∙◌, ap, subst, arith, if◌then◌else◌}
use Rattle.std.specs.List.{list_all}
use Rattle.std.specs.Str.{bytes_eq}
use Rattle.std.proofs.lemmas.Slice.Eq.{bytes_eq-Decides}
use Rattle.rule_model.specs.declared.rules.Rule.{Rule}
use Rattle.rule_model.specs.Reading.{is_assume}
use Rattle.rule_model.specs.RuleNames.{word_of, kind_of, IsJudged, is_unknown, hole_rules, known_rules, rule_among, rule_named}

-- a rule that a word names has the word, where it is known
among_has_word : (rules : List Rule) (word : List ℕ) → rule_among rules word ≢ Rule.Unknown → word_of (rule_among rules word) ≡ word
among_has_word [] word h = absurd (h refl)
among_has_word (rule ∷ rules) word h = go (bytes_eq (word_of rule) word) refl (among_has_word rules word) h
  where
    go : (b : Bool) → bytes_eq (word_of rule) word ≡ b → (rule_among rules word ≢ Rule.Unknown → word_of (rule_among rules word) ≡ word) → (if b then rule else rule_among rules word) ≢ Rule.Unknown → word_of (if b then rule else rule_among rules word) ≡ word
    go true e ih h = (bytes_eq-Decides (word_of rule) word).0 e
    go false e ih h = ih h

named_word : (word : List ℕ) → rule_named word ≢ Rule.Unknown → word_of (rule_named word) ≡ word
unfolding rule_named
named_word word h = among_has_word known_rules word h

pub named_has_word : (word : List ℕ) → is_unknown (rule_named word) ≡ false → word_of (rule_named word) ≡ word
named_has_word word h = named_word word (λ same. no_unknown (subst (λ rule. is_unknown rule ≡ false) same h))
  where
    no_unknown : is_unknown Rule.Unknown ≡ false → ⊥
    no_unknown e = cc

-- what holds of Unknown and of each rule of the list, holds of the rule that a word names
pub among_passes : (p : Rule → Bool) (rules : List Rule) (word : List ℕ) → p Rule.Unknown ≡ true → list_all p rules ≡ true → p (rule_among rules word) ≡ true
among_passes p [] word u h = u
among_passes p (rule ∷ rules) word u h = go (p rule) refl (bytes_eq (word_of rule) word) h (λ h. among_passes p rules word u h)
  where
    go : (q : Bool) → p rule ≡ q → (b : Bool) → (q && list_all p rules) ≡ true → (list_all p rules ≡ true → p (rule_among rules word) ≡ true) → p (if b then rule else rule_among rules word) ≡ true
    go true e true h ih = e
    go true e false h ih = ih h
    go false e b h ih = absurd (cc)

abbrev not_assume : Rule → Bool
not_assume rule = if is_assume rule then false else true

-- no word names an assume
named_passes : (word : List ℕ) → not_assume (rule_named word) ≡ true
unfolding rule_named
named_passes word = among_passes not_assume known_rules word refl refl

pub named_no_assume : (word : List ℕ) → is_assume (rule_named word) ≡ false
named_no_assume word = go (is_assume (rule_named word)) (named_passes word)
  where
    go : (b : Bool) → (if b then false else true) ≡ true → b ≡ false
    go true h = absurd (cc)
    go false h = refl

-- a word names the rule that has it
pub word_names : (rule : Rule) → is_assume rule ≡ false → is_unknown rule ≡ false → rule_named (word_of rule) ≡ rule
unfolding rule_named
word_names Rule.Assume a u = absurd (cc)
word_names Rule.Unknown a u = absurd (cc)
word_names rule a u = refl

-- two rules with one word are one
pub one_word : (a b : Rule) → is_assume a ≡ false → is_unknown a ≡ false → is_assume b ≡ false → is_unknown b ≡ false → word_of a ≡ word_of b → a ≡ b
one_word a b no_a known_a no_b known_b same = sym (word_names a no_a known_a) ∙ ap rule_named same ∙ word_names b no_b known_b

-- each rule that is known, and leaves no hole, is judged
pub rule_is_judged : (rule : Rule) → (rule ≡ Rule.Assume) ⊎ (rule ≡ Rule.Unknown) ⊎ Contains hole_rules rule ⊎ IsJudged (kind_of rule)
rule_is_judged Rule.Assume = inl refl
rule_is_judged Rule.Unknown = inr (inl refl)
rule_is_judged Rule.Hole = inr (inr (inl (0, omega arith, refl)))
rule_is_judged Rule.LiaGeneric = inr (inr (inl (1, omega arith, refl)))
rule_is_judged Rule.RareRewrite = inr (inr (inl (2, omega arith, refl)))
rule_is_judged Rule.AllSimplify = inr (inr (inl (3, omega arith, refl)))
rule_is_judged rule = inr (inr (inr (record { family = _; is = refl })))
