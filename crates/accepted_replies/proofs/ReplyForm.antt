-- Private. A reply is well formed: its ids are c1, c2 and so on.
use Rattle.std.proofs.Common.{◌≡◌, inl, inr, ℕ, zero, suc, ◌+◌, ◌<◌, ◌≤◌, ◌^◌, true, List, [], ◌∷◌, ◌++◌, map, drop}
use Rattle.std.proofs.Common.{length, decimal, Contains, refl, sym, ap, ◌∙◌, subst, arith}
use Rattle.std.specs.List.{AllByRecursion, list_all}
use Rattle.std.specs.Char.{is_ascii_digit}
use Rattle.std.proofs.lemmas.Bool.{and_parts, cases_lt}
use Rattle.std.proofs.lemmas.List.{map-append}
use Rattle.std.proofs.lemmas.List.Elements.{All-from_recursion}
use Rattle.sexpr.specs.Words.{numeral_value}
use Rattle.sexpr.proofs.PrintedNumerals.{decimal_is}
use Rattle.term_model.proofs.Lists.{contains_none, contains_cases, contains_head, contains_later}
use Rattle.rule_model.specs.Proofs.{ProofItems, no_items, with_step}
use Rattle.rule_model.specs.RuleNames.{IsSymbolName}
use Rattle.rule_model.specs.Scopes.{outermost, first_index, commands_in}
use Rattle.rule_model.specs.Visibility.{sight, direct, visible, visible_ids}
use Rattle.rule_model.specs.WellFormed.{IsNewId, HasRule, MayStand, AreWellFormed, IsWellFormed}
use Rattle.printed_proofs.specs.Numbered.{printed_id}
use Rattle.accepted_replies.specs.Numbering.{sights, IsNumbered}
use Rattle.accepted_replies.specs.Replies.{Inference, numbers_from, assumed_behind, assumes_behind, inferring, resolving, reply_of}
use Rattle.accepted_replies.proofs.ReplyLines.{count_before}

-- ids are symbols, and differ
no_bar : (b : ℕ) → is_ascii_digit b ≡ true → (b ≡ 124 → ⊥) × (b ≡ 92 → ⊥)
no_bar b is = (
  λ e. let f : is_ascii_digit 124 ≡ true = subst (λ n. is_ascii_digit n ≡ true) e is in cc,
  λ e. let f : is_ascii_digit 92 ≡ true = subst (λ n. is_ascii_digit n ≡ true) e is in cc,
)

no_bars : (ds : List ℕ) → list_all is_ascii_digit ds ≡ true → AllByRecursion (λ b. (b ≡ 124 → ⊥) × (b ≡ 92 → ⊥)) ds
no_bars [] e = tt
no_bars (d ∷ ds) e = let both = and_parts (is_ascii_digit d) (list_all is_ascii_digit ds) e in (no_bar d both.0, no_bars ds both.1)

pub id_symbol : (k : ℕ) → k < 2 ^ 32 → IsSymbolName (printed_id k)
id_symbol k few =
    All-from_recursion (λ b. (b ≡ 124 → ⊥) × (b ≡ 92 → ⊥)) (printed_id k) (
      (λ e. let f : 99 ≡ 124 = e in omega (arith, f), λ e. let f : 99 ≡ 92 = e in omega (arith, f)),
      no_bars (decimal (k + 1)) (decimal_is (k + 1) (omega (arith, few))).digits,
    )

one_index : (a b : ℕ) → a < 2 ^ 32 → b < 2 ^ 32 → printed_id a ≡ printed_id b → a ≡ b
one_index a b few many e =
    let tails : decimal (a + 1) ≡ decimal (b + 1) = ap (drop 1) e in
    let first = decimal_is (a + 1) (omega (arith, few)) in
    let second = decimal_is (b + 1) (omega (arith, many)) in
    let same : a + 1 ≡ b + 1 = sym first.value ∙ ap numeral_value tails ∙ second.value in
    omega (arith, same)

-- numbers
numbers_end : (k n : ℕ) → numbers_from k (suc n) ≡ numbers_from k n ++ (k + n) ∷ []
numbers_end k zero = let e : k + 0 ≡ k = omega arith in ap (λ m. m ∷ []) (sym e)
numbers_end k (suc n) =
    let e : suc k + n ≡ k + suc n = omega arith in
    ap (λ ks. k ∷ ks) (numbers_end (suc k) n ∙ ap (λ m. numbers_from (suc k) n ++ m ∷ []) e)

pub numbers_next : (k : ℕ) → numbers_from 0 (k + 1) ≡ numbers_from 0 k ++ k ∷ []
numbers_next k =
    let more : k + 1 ≡ suc k = omega arith in
    let same : 0 + k ≡ k = omega arith in
    ap (numbers_from 0) more ∙ (numbers_end 0 k ∙ ap (λ m. numbers_from 0 k ++ m ∷ []) same)

among_numbers : (k n j : ℕ) → k ≤ j → j < k + n → Contains (numbers_from k n) j
among_numbers k zero j low high = absurd (omega (arith, low, high))
among_numbers k (suc n) j low high =
    elim (cases_lt k j) [
      | inl less ↦ contains_later k j (numbers_from (suc k) n) (among_numbers (suc k) n j less (omega (arith, high)))
      | inr most ↦
          let same : k ≡ j = omega (arith, low, most) in
          subst (Contains (k ∷ numbers_from (suc k) n)) same (contains_head k (numbers_from (suc k) n))
    ]

no_later_id : (k n j : ℕ) → k + n ≤ j → j < 2 ^ 32 → Contains (map printed_id (numbers_from k n)) (printed_id j) → ⊥
no_later_id k zero j behind few has = contains_none (printed_id j) has
no_later_id k (suc n) j behind few has =
    elim (contains_cases (printed_id k) (printed_id j) (map printed_id (numbers_from (suc k) n)) has) [
      | inl e ↦ let same = one_index k j (omega (arith, behind, few)) few e in omega (arith, same, behind)
      | inr later ↦ no_later_id (suc k) n j (omega (arith, behind)) few later
    ]

numbers_within : (k n all : ℕ) → k + n ≤ all → AllByRecursion (λ j. j < all) (numbers_from k n)
numbers_within k zero all within = tt
numbers_within k (suc n) all within = (omega (arith, within), numbers_within (suc k) n all (omega (arith, within)))

-- what is seen of commands whose ids are their numbers
sights_end : (n : ℕ) → sights (suc n) ≡ sights n ++ sight n (printed_id n) ∷ []
sights_end n =
    let e : 0 + n ≡ n = omega arith in
    ap (map (λ k. sight k (printed_id k))) (numbers_end 0 n ∙ ap (λ m. numbers_from 0 n ++ m ∷ []) e)
    ∙ map-append (λ k. sight k (printed_id k)) (numbers_from 0 n) (n ∷ [])

indices_of : (ks : List ℕ) → map (λ s. s.index) (map (λ k. sight k (printed_id k)) ks) ≡ ks
indices_of [] = refl
indices_of (k ∷ ks) = ap (λ ls. k ∷ ls) (indices_of ks)

ids_of : (ks : List ℕ) → map (λ s. s.id) (map (λ k. sight k (printed_id k)) ks) ≡ map printed_id ks
ids_of [] = refl
ids_of (k ∷ ks) = ap (λ ls. printed_id k ∷ ls) (ids_of ks)

module _ {V T : Type 0} where
  more_numbered : (items : ProofItems V T) (k : ℕ) → commands_in items ≡ k → IsNumbered items
      → direct outermost items ++ sight (first_index {V = V} {T = T} outermost + commands_in items) (printed_id k) ∷ [] ≡ sights (suc (commands_in items))
  more_numbered items k count h =
      let e : 0 + commands_in items ≡ commands_in items = omega arith in
      ap (λ ss. ss ++ sight (0 + commands_in items) (printed_id k) ∷ []) h
      ∙ (ap (λ n. sights (commands_in items) ++ sight n (printed_id k) ∷ []) e
      ∙ (ap (λ n. sights (commands_in items) ++ sight (commands_in items) (printed_id n) ∷ []) (sym count) ∙ sym (sights_end (commands_in items))))

  pub assumed_numbered : (items : ProofItems V T) (ts : List T) → IsNumbered items → IsNumbered (assumes_behind items ts)
  assumed_numbered items [] h = h
  assumed_numbered items (t ∷ ts) h = assumed_numbered (assumed_behind items t) ts (more_numbered items (commands_in items) refl h)

  pub new_id : (items : ProofItems V T) (k : ℕ) → commands_in items ≡ k → IsNumbered items → k < 2 ^ 32 → IsNewId outermost items (printed_id k)
  new_id items k count h few = record {
    symbol = id_symbol k few;
    unseen = λ has.
        let ids : visible_ids outermost items ≡ map printed_id (numbers_from 0 (commands_in items)) =
        ap (map (λ s. s.id)) h ∙ ids_of (numbers_from 0 (commands_in items)) in
        no_later_id 0 (commands_in items) k (omega (arith, count)) few (subst (λ ids. Contains ids (printed_id k)) ids has);
    not_open = contains_none (printed_id k);
  }

  pub sees : (items : ProofItems V T) (j : ℕ) → IsNumbered items → j < commands_in items → Contains (visible outermost items) j
  sees items j h less =
      let indices : visible outermost items ≡ numbers_from 0 (commands_in items) =
      ap (map (λ s. s.index)) h ∙ indices_of (numbers_from 0 (commands_in items)) in
      subst (λ ks. Contains ks j) (sym indices) (among_numbers 0 (commands_in items) j (omega arith) (omega (arith, less)))

  -- where there are few commands in all
  pub assumes_formed : (items : ProofItems V T) (ts : List T) → commands_in items + length ts < 2 ^ 32 → IsNumbered items → AreWellFormed outermost items
      → AreWellFormed outermost (assumes_behind items ts)
  assumes_formed items [] few h well = well
  assumes_formed items (t ∷ ts) few h well =
      assumes_formed (assumed_behind items t) ts (omega (arith, few)) (more_numbered items (commands_in items) refl h)
      (well, new_id items (commands_in items) refl h (omega (arith, few)))

  all_seen : (items : ProofItems V T) (ks : List ℕ) → IsNumbered items → AllByRecursion (λ k. k < commands_in items) ks →
      AllByRecursion (Contains (visible outermost items)) ks
  all_seen items [] h within = tt
  all_seen items (k ∷ ks) h within = (sees items k h within.0, all_seen items ks h within.1)

module _ (V : Type 0) {T : Type 0} (assumed : List T) (x : Inference T) (few : length assumed + 2 ≤ 2 ^ 32) where
  abbrev before : ProofItems V T
  before = assumes_behind no_items assumed

  abbrev inferred : ProofItems V T
  inferred = with_step before (inferring (length assumed) x)

  before_is : IsNumbered before
  before_is = assumed_numbered no_items assumed refl

  before_count : commands_in before ≡ length assumed
  before_count = count_before V assumed x

  inferred_is : IsNumbered inferred
  inferred_is = more_numbered before (length assumed) before_count before_is

  pub may_infer : HasRule (inferring (length assumed) x) → MayStand outermost before (inferring (length assumed) x)
  may_infer rule = record {
    id = new_id before (length assumed) before_count before_is (omega (arith, few));
    rule = rule;
    premises = All-from_recursion (Contains (visible outermost before)) [] tt;
    discharged = refl;
  }

  pub may_resolve : HasRule (resolving {T = T} (length assumed)) → MayStand outermost inferred (resolving (length assumed))
  may_resolve rule = record {
    id = new_id inferred (suc (length assumed)) (ap suc before_count) inferred_is (omega (arith, few));
    rule = rule;
    premises =
        All-from_recursion (Contains (visible outermost inferred)) (length assumed ∷ numbers_from 0 (length assumed))
        (all_seen inferred (length assumed ∷ numbers_from 0 (length assumed)) inferred_is (
          let all = before_count in omega (arith, all),
          numbers_within 0 (length assumed) (suc (commands_in before)) (let all = before_count in omega (arith, all)),
        ));
    discharged = refl;
  }

  pub reply_formed : HasRule (inferring (length assumed) x) → HasRule (resolving {T = T} (length assumed)) → IsWellFormed (reply_of {V = V} assumed x)
  reply_formed rule last = ((assumes_formed no_items assumed (omega (arith, few)) refl tt, may_infer rule), may_resolve last)
