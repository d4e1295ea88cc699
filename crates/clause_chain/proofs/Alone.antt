-- Joining two clauses has one result, and doesn't see repeats on the left.
use Rattle.std.proofs.Common.{◌≡◌, ◌≢◌, ◌⊎◌, ◌↔◌, inl, inr, List, [], ◌∷◌, ◌++◌, refl, sym, Contains}
use Rattle.std.proofs.lemmas.List.Elements.{Contains-append_left, Contains-push, Contains-push_cases}
use Rattle.term_model.proofs.Lists.{contains_none, contains_cases, contains_head, contains_later}
use Rattle.rule_model.specs.Resolution.{LeavesWithout, IsFirstsOf, IsJoined}
use Rattle.rule_model.proofs.JoinedLists.{leaves_one, firsts_one}
use Rattle.clause_chain.specs.declared.signed_term.SignedTerm.{SignedTerm}
use Rattle.clause_chain.proofs.Keys.{signed_tells}

pub joined_one : {X : Type 0} (left right : List X) (here there : X) (a b : List X) → IsJoined left right here there a
    → IsJoined left right here there b → a ≡ b
joined_one left right here there a b h k =
    let l = leaves_one here left h.left_rest k.left_rest h.left_is k.left_is in
    let r = leaves_one there right h.right_rest k.right_rest h.right_is k.right_is in
    firsts_one [] (k.left_rest ++ k.right_rest) a b (rw (l, r) at h.firsts) k.firsts

-- every list leaves one without an item
pub leaves : (p : SignedTerm) (xs : List SignedTerm) → (rest : List SignedTerm) × LeavesWithout p xs rest
leaves p [] = ([], refl)
leaves p (x ∷ xs) =
    let more = leaves p xs in
    elim (signed_tells x p) [
      | inl same ↦ (more.0, inl (same.1, more.1))
      | inr other ↦ (x ∷ more.0, inr (other.1, (more.0, refl, more.1)))
    ]

-- what is seen is the same but for one item
abbrev AreAlike : {X : Type 0} → X → List X → List X → Type 0
AreAlike {X} p seen other = (x : X) → x ≢ p → Contains seen x ↔ Contains other x

alike_left : {X : Type 0} (p : X) (seen other : List X) → AreAlike p seen other → AreAlike p (seen ++ p ∷ []) other
alike_left p seen other alike x differs = (
  λ c. elim (Contains-push_cases seen p x c) [ inl before ↦ (alike x differs).0 before | inr here ↦ absurd (differs (sym here)) ],
  λ c. Contains-append_left seen (p ∷ []) x ((alike x differs).1 c),
)

alike_both : {X : Type 0} (p y : X) (seen other : List X) → AreAlike p seen other → AreAlike p (seen ++ y ∷ []) (other ++ y ∷ [])
alike_both p y seen other alike x differs = (
  λ c. elim (Contains-push_cases seen y x c) [
    | inl before ↦ Contains-append_left other (y ∷ []) x ((alike x differs).0 before)
    | inr here ↦ rw (← here) (Contains-push other y)
  ],
  λ c. elim (Contains-push_cases other y x c) [
    | inl before ↦ Contains-append_left seen (y ∷ []) x ((alike x differs).1 before)
    | inr here ↦ rw (← here) (Contains-push seen y)
  ],
)

-- A list and its first occurrences, both without an item and with the same tail: their first occurrences are the same.
pub firsts_alike : {X : Type 0} (p : X) (seen other xs ys us vs tail res : List X) → AreAlike p seen other → IsFirstsOf seen xs ys
    → LeavesWithout p xs us → LeavesWithout p ys vs
    → (IsFirstsOf other (us ++ tail) res → IsFirstsOf other (vs ++ tail) res) × (IsFirstsOf other (vs ++ tail) res → IsFirstsOf other (us ++ tail) res)
firsts_alike p seen other [] ys us vs tail res alike f l m =
    let e : vs ≡ [] = rw f at m in rw (l, e) (λ h. h, λ h. h)
firsts_alike p seen other (x ∷ xs) ys us vs tail res alike (inl (has, f)) (inl (same, l)) m =
    firsts_alike p seen other xs ys us vs tail res alike f l m
firsts_alike p seen other (x ∷ xs) ys us vs tail res alike (inl (has, f)) (inr (differs, (rest, e, l))) m =
    let more = firsts_alike p seen other xs ys rest vs tail res alike f l m in
    rw e (
      λ h. elim h [ inl dropped ↦ more.0 dropped.1 | inr kept ↦ absurd (kept.0 ((alike x differs).0 has)) ],
      λ h. inl ((alike x differs).0 has, more.1 h),
    )
firsts_alike p seen other (x ∷ xs) ys us vs tail res alike (inr (lacks, (rest, e, f))) (inl (same, l)) m =
    elim (rw e at m) [
      | inl here ↦ firsts_alike p (seen ++ p ∷ []) other xs rest us vs tail res (alike_left p seen other alike) (rw same at f) l here.1
      | inr differs ↦ absurd (differs.0 same)
    ]
firsts_alike {X = X} p seen other (x ∷ xs) ys us vs tail res alike (inr (lacks, (rest, e, f))) (inr (differs, (us_rest, g, l))) m =
    elim (rw e at m) [
      | inl here ↦ absurd (differs here.0)
      | inr kept ↦
          let more = λ (ws : List X). firsts_alike p (seen ++ x ∷ []) (other ++ x ∷ []) xs rest us_rest kept.1.0 tail ws
          (alike_both p x seen other alike) f l kept.1.2 in
          rw (g, kept.1.1) (
            λ h. elim h [
              | inl dropped ↦ absurd (lacks ((alike x differs).1 dropped.0))
              | inr first ↦ inr
                  (first.0, (first.1.0, first.1.1, (more first.1.0).0 first.1.2))
            ],
            λ h. elim h [
              | inl dropped ↦ absurd (lacks ((alike x differs).1 dropped.0))
              | inr first ↦ inr
                  (first.0, (first.1.0, first.1.1, (more first.1.0).1 first.1.2))
            ],
          )
    ]

kept_first : {X : Type 0} (seen xs rest : List X) (u : X) → IsFirstsOf seen xs rest → Contains xs u → Contains seen u ⊎ Contains rest u
kept_first seen [] rest u f c = absurd (contains_none u c)
kept_first seen (x ∷ xs) rest u (inl (before, f)) c =
    elim (contains_cases x u xs c) [ inl here ↦ inl (rw (← here) before) | inr later ↦ kept_first seen xs rest u f later ]
kept_first seen (x ∷ xs) rest u (inr (new, (us, e, f))) c =
    elim (contains_cases x u xs c) [
      | inl here ↦ inr (rw (e, ← here) (contains_head x us))
      | inr later ↦
          elim (kept_first (seen ++ x ∷ []) xs us u f later) [
            | inl before ↦
                elim (Contains-push_cases seen x u before) [ inl in_seen ↦ inl in_seen | inr here ↦ inr (rw (e, ← here) (contains_head x us)) ]
            | inr left ↦ inr (rw e (contains_later x u us left))
          ]
    ]

first_was : {X : Type 0} (seen xs rest : List X) (u : X) → IsFirstsOf seen xs rest → Contains rest u → Contains xs u
first_was seen [] rest u f c = absurd (contains_none u (rw f at c))
first_was seen (x ∷ xs) rest u (inl (before, f)) c = contains_later x u xs (first_was seen xs rest u f c)
first_was seen (x ∷ xs) rest u (inr (new, (us, e, f))) c =
    elim (contains_cases x u us (rw e at c)) [
      | inl here ↦ rw (← here) (contains_head x xs)
      | inr later ↦ contains_later x u xs (first_was (seen ++ x ∷ []) xs us u f later)
    ]

nothing_alike : {X : Type 0} (p : X) → AreAlike p [] []
nothing_alike p x differs = (λ c. c, λ c. c)

-- what is joined with a clause is joined with its first occurrences
pub joined_alike : (left firsts right : List SignedTerm) (here there : SignedTerm) (result : List SignedTerm) → IsFirstsOf [] left firsts
    → IsJoined left right here there result ↔ IsJoined firsts right here there result
joined_alike left firsts right here there result f = (
  λ h.
      let rest = leaves here firsts in record {
        on_left = elim (kept_first [] left firsts here f h.on_left) [ inl none ↦ absurd (contains_none here none) | inr there ↦ there ];
        on_right = h.on_right;
        left_rest = rest.0;
        left_is = rest.1;
        right_rest = h.right_rest;
        right_is = h.right_is;
        firsts = (firsts_alike here [] [] left firsts h.left_rest rest.0 h.right_rest result (nothing_alike here) f h.left_is rest.1).0 h.firsts;
      },
  λ h.
      let rest = leaves here left in record {
        on_left = first_was [] left firsts here f h.on_left;
        on_right = h.on_right;
        left_rest = rest.0;
        left_is = rest.1;
        right_rest = h.right_rest;
        right_is = h.right_is;
        firsts = (firsts_alike here [] [] left firsts rest.0 h.left_rest h.right_rest result (nothing_alike here) f rest.1 h.left_is).1 h.firsts;
      },
)
