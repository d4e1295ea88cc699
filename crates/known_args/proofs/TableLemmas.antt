-- Cited by crates above. Lists of references without later repeats.
use Rattle.std.proofs.Common.{◌≡◌, ◌↔◌, ◌⊎◌, ◌+◌, ◌≤◌, ◌<◌, inl, inr, ℕ, List, [], ◌∷◌, ◌++◌, Bool, true, false, nat_eq, cond, length, take, get_or, refl, sym, ap, ◌∙◌, subst, Contains}
use Rattle.std.specs.List.{list_any}
use Rattle.std.proofs.lemmas.List.{take_more, take_all}
use Rattle.std.proofs.lemmas.List.Elements.{Contains-push_cases}
use Rattle.indexmap.specs.IndexSet.{insert_key}
use Rattle.rule_model.specs.Resolution.{IsFirstsOf}
use Rattle.rule_model.proofs.JoinedLists.{repeated_last, new_last}
use Rattle.term_model.proofs.Lists.{contains_none, contains_cases, contains_head, contains_later, has_number}
use Rattle.known_args.specs.Tables.{AddsItem}

pub item_there : (old new : List ℕ) (r : ℕ) → Contains old r → new ≡ old → AddsItem old new r
item_there old new r there same items firsts = rw same (repeated_last [] items old r firsts there)

pub item_missing : (old new : List ℕ) (r : ℕ) → ¬ Contains old r → new ≡ old ++ r ∷ [] → AddsItem old new r
item_missing old new r missing more items firsts = rw more (new_last [] items old r firsts missing)

pub item_added : (old new : List ℕ) (r : ℕ) → new ≡ insert_key nat_eq old r → AddsItem old new r
item_added old new r is = go (list_any (nat_eq r) old) refl is
  where
    go : (t : Bool) → list_any (nat_eq r) old ≡ t → new ≡ cond t old (old ++ r ∷ []) → AddsItem old new r
    go true h is = item_there old new r ((has_number old r).0 h) is
    go false h is = item_missing old new r (λ c. absurd (let i = (has_number old r).1 c in cc)) is

-- the list has the first items of another, each once
abbrev pub HasFirst : List ℕ → List ℕ → ℕ → Type 0
HasFirst keys items i = IsFirstsOf [] (take i items) keys

pub one_more : (keys new items : List ℕ) (i r : ℕ) → i < length items → r ≡ get_or items i r → AddsItem keys new r → HasFirst keys items i → HasFirst new items (i + 1)
one_more keys new items i r below is adds before =
    subst (λ (xs : List ℕ). IsFirstsOf [] xs new) (sym (take_more items i r below ∙ ap (λ x. take i items ++ x ∷ []) (sym is))) (adds (take i items) before)

pub all_added : (keys items : List ℕ) (i : ℕ) → length items ≤ i → HasFirst keys items i → IsFirstsOf [] items keys
all_added keys items i end all = subst (λ (xs : List ℕ). IsFirstsOf [] xs keys) (take_all i items end) all

-- what is there once is there
firsts_were : (seen xs rest : List ℕ) (u : ℕ) → IsFirstsOf seen xs rest → Contains rest u → Contains xs u
firsts_were seen [] rest u f c = absurd (contains_none u (rw f at c))
firsts_were seen (x ∷ xs) rest u (inl (before, f)) c = contains_later x u xs (firsts_were seen xs rest u f c)
firsts_were seen (x ∷ xs) rest u (inr (new, (us, e, f))) c =
    elim (contains_cases x u us (rw e at c)) [
      | inl here ↦ rw (← here) (contains_head x xs)
      | inr later ↦ contains_later x u xs (firsts_were (seen ++ x ∷ []) xs us u f later)
    ]

firsts_are : (seen xs rest : List ℕ) (u : ℕ) → IsFirstsOf seen xs rest → Contains xs u → Contains seen u ⊎ Contains rest u
firsts_are seen [] rest u f c = absurd (contains_none u c)
firsts_are seen (x ∷ xs) rest u (inl (before, f)) c =
    elim (contains_cases x u xs c) [ inl here ↦ inl (rw (← here) before) | inr later ↦ firsts_are seen xs rest u f later ]
firsts_are seen (x ∷ xs) rest u (inr (new, (us, e, f))) c =
    elim (contains_cases x u xs c) [
      | inl here ↦ inr (rw (e, ← here) (contains_head x us))
      | inr later ↦
          elim (firsts_are (seen ++ x ∷ []) xs us u f later) [
            | inl before ↦
                elim (Contains-push_cases seen x u before) [ inl in_seen ↦ inl in_seen | inr here ↦ inr (rw (e, ← here) (contains_head x us)) ]
            | inr left ↦ inr (rw e (contains_later x u us left))
          ]
    ]

pub firsts_have : (xs rest : List ℕ) (u : ℕ) → IsFirstsOf [] xs rest → Contains rest u ↔ Contains xs u
firsts_have xs rest u f = (
  λ c. firsts_were [] xs rest u f c,
  λ c. elim (firsts_are [] xs rest u f c) [ inl none ↦ absurd (contains_none u none) | inr there ↦ there ],
)
