-- Private. Joined clauses, whatever their items are.
use Rattle.std.proofs.Common.{◌≡◌, ◌≢◌, ◌⊎◌, ◌↔◌, inl, inr, ℕ, zero, suc, Bool, true, false, true≢false}
use Rattle.std.proofs.Common.{List, [], ◌∷◌, ◌++◌, map, refl, sym, ◌∙◌, ap, subst, arith, Contains}
use Rattle.std.proofs.lemmas.List.{map-append}
use Rattle.std.proofs.lemmas.List.Elements.{Contains-append_cases, Contains-append_left, Contains-append_right, Contains-push_cases}
use Rattle.term_model.proofs.Lists.{contains_none, contains_cases, contains_head, contains_later}
use Rattle.rule_model.specs.Resolution.{LeavesWithout, IsFirstsOf, IsJoined}
use Rattle.clause_chain.specs.declared.signed_term.SignedTerm.{SignedTerm}

module _ {X : Type 0} where
  left_was : (p : X) (ts rest : List X) (u : X) → LeavesWithout p ts rest → Contains rest u → Contains ts u × (u ≢ p)
  left_was p [] rest u w c = absurd (contains_none u (rw w at c))
  left_was p (t ∷ ts) rest u (inl (same, w)) c =
      let before = left_was p ts rest u w c in (contains_later t u ts before.0, before.1)
  left_was p (t ∷ ts) rest u (inr (other, (us, e, w))) c =
      elim (contains_cases t u us (rw e at c)) [
        | inl here ↦ (rw (← here) (contains_head t ts), λ same. other (here ∙ same))
        | inr later ↦ let before = left_was p ts us u w later in (contains_later t u ts before.0, before.1)
      ]

  left_stays : (p : X) (ts rest : List X) (u : X) → LeavesWithout p ts rest → Contains ts u → (u ≡ p) ⊎ Contains rest u
  left_stays p [] rest u w c = absurd (contains_none u c)
  left_stays p (t ∷ ts) rest u (inl (same, w)) c =
      elim (contains_cases t u ts c) [ inl here ↦ inl (sym here ∙ same) | inr later ↦ left_stays p ts rest u w later ]
  left_stays p (t ∷ ts) rest u (inr (other, (us, e, w))) c =
      elim (contains_cases t u ts c) [
        | inl here ↦ inr (rw (e, ← here) (contains_head t us))
        | inr later ↦ elim (left_stays p ts us u w later) [ inl same ↦ inl same | inr left ↦ inr (rw e (contains_later t u us left)) ]
      ]

  firsts_were : (seen ts rest : List X) (u : X) → IsFirstsOf seen ts rest → Contains rest u → Contains ts u
  firsts_were seen [] rest u f c = absurd (contains_none u (rw f at c))
  firsts_were seen (t ∷ ts) rest u (inl (before, f)) c = contains_later t u ts (firsts_were seen ts rest u f c)
  firsts_were seen (t ∷ ts) rest u (inr (new, (us, e, f))) c =
      elim (contains_cases t u us (rw e at c)) [
        | inl here ↦ rw (← here) (contains_head t ts)
        | inr later ↦ contains_later t u ts (firsts_were (seen ++ t ∷ []) ts us u f later)
      ]

  firsts_stay : (seen ts rest : List X) (u : X) → IsFirstsOf seen ts rest → Contains ts u → Contains seen u ⊎ Contains rest u
  firsts_stay seen [] rest u f c = absurd (contains_none u c)
  firsts_stay seen (t ∷ ts) rest u (inl (before, f)) c =
      elim (contains_cases t u ts c) [ inl here ↦ inl (rw (← here) before) | inr later ↦ firsts_stay seen ts rest u f later ]
  firsts_stay seen (t ∷ ts) rest u (inr (new, (us, e, f))) c =
      elim (contains_cases t u ts c) [
        | inl here ↦ inr (rw (e, ← here) (contains_head t us))
        | inr later ↦
            elim (firsts_stay (seen ++ t ∷ []) ts us u f later) [
              | inl before ↦ elim (Contains-push_cases seen t u before) [ inl in_seen ↦ inl in_seen | inr here ↦ inr (rw (e, ← here) (contains_head t us)) ]
              | inr left ↦ inr (rw e (contains_later t u us left))
            ]
      ]

  pub firsts_had : (ts rest : List X) (u : X) → IsFirstsOf [] ts rest → Contains rest u → Contains ts u
  firsts_had ts rest u f c = firsts_were [] ts rest u f c

  pub firsts_have : (ts rest : List X) (u : X) → IsFirstsOf [] ts rest → Contains ts u → Contains rest u
  firsts_have ts rest u f c = elim (firsts_stay [] ts rest u f c) [ inl none ↦ absurd (contains_none u none) | inr there ↦ there ]

  -- where an item of what is joined was, and where one stays
  pub joined_was : (left right : List X) (here there : X) (next : List X) (u : X) → IsJoined left right here there next → Contains next u
      → (Contains left u × (u ≢ here)) ⊎ (Contains right u × (u ≢ there))
  joined_was left right here there next u step c =
      elim (Contains-append_cases step.left_rest step.right_rest u (firsts_were [] (step.left_rest ++ step.right_rest) next u step.firsts c)) [
        | inl at ↦ inl (left_was here left step.left_rest u step.left_is at)
        | inr at ↦ inr (left_was there right step.right_rest u step.right_is at)
      ]

  pub left_has : (left right : List X) (here there : X) (next : List X) (u : X) → IsJoined left right here there next → Contains left u
      → (u ≡ here) ⊎ Contains next u
  left_has left right here there next u step c =
      elim (left_stays here left step.left_rest u step.left_is c) [
        | inl same ↦ inl same
        | inr stays ↦ inr (firsts_have (step.left_rest ++ step.right_rest) next u step.firsts (Contains-append_left step.left_rest step.right_rest u stays))
      ]

  pub right_has : (left right : List X) (here there : X) (next : List X) (u : X) → IsJoined left right here there next → Contains right u
      → u ≢ there → Contains next u
  right_has left right here there next u step c other =
      elim (left_stays there right step.right_rest u step.right_is c) [
        | inl same ↦ absurd (other same)
        | inr stays ↦ firsts_have (step.left_rest ++ step.right_rest) next u step.firsts (Contains-append_right step.left_rest step.right_rest u stays)
      ]

module _ {X Y : Type 0} (f : X → Y) where
  pub image_in : (xs : List X) (x : X) → Contains xs x → Contains (map f xs) (f x)
  image_in [] x c = absurd (contains_none x c)
  image_in (z ∷ xs) x c =
      elim (contains_cases z x xs c) [
        | inl here ↦ rw (← here) (contains_head (f z) (map f xs))
        | inr later ↦ contains_later (f z) (f x) (map f xs) (image_in xs x later)
      ]

  pub image_of : (xs : List X) (y : Y) → Contains (map f xs) y → (x : X) × Contains xs x × (f x ≡ y)
  image_of [] y c = absurd (contains_none y c)
  image_of (z ∷ xs) y c =
      elim (contains_cases (f z) y (map f xs) c) [
        | inl here ↦ (z, contains_head z xs, here)
        | inr later ↦ let i = image_of xs y later in (i.0, contains_later z i.0 xs i.1, i.2)
      ]

  -- Resolving with two items puts one for another: where both have one image, all images stay.
  pub one_for_another : (old : List X) (here there other : X) (new : List X) → IsJoined old (there ∷ other ∷ []) here there new
      → other ≢ there → f other ≡ f here → (y : Y) → Contains (map f old) y ↔ Contains (map f new) y
  one_for_another old here there other new step differs same y = (
    λ c.
        let i = image_of old y c in
        elim (left_has old (there ∷ other ∷ []) here there new i.0 step i.1) [
          | inl pivot ↦
              subst (Contains (map f new)) (same ∙ (ap f (sym pivot) ∙ i.2))
              (image_in new other (right_has old (there ∷ other ∷ []) here there new other step
              (contains_later there other (other ∷ []) (contains_head other [])) differs))
          | inr stays ↦ subst (Contains (map f new)) i.2 (image_in new i.0 stays)
        ],
    λ c.
        let i = image_of new y c in
        elim (joined_was old (there ∷ other ∷ []) here there new i.0 step i.1) [
          | inl was ↦ subst (Contains (map f old)) i.2 (image_in old i.0 was.0)
          | inr was ↦
              elim (contains_cases there i.0 (other ∷ []) was.0) [
                | inl removed ↦ absurd (was.1 (sym removed))
                | inr later ↦
                    elim (contains_cases other i.0 [] later) [
                      | inl is ↦ subst (Contains (map f old)) (sym same ∙ (ap f is ∙ i.2)) (image_in old here step.on_left)
                      | inr none ↦ absurd (contains_none i.0 none)
                    ]
              ]
        ],
  )

-- Joined items are joined in their images, where no two of them have one image.
module _ {X Y : Type 0} (P : X → Type 0) (f : X → Y) (one : (x z : X) → P x → P z → f x ≡ f z → x ≡ z) where
  leaves_mapped : (p : X) (xs rest : List X) → P p → ((x : X) → Contains xs x → P x) → LeavesWithout p xs rest
      → LeavesWithout (f p) (map f xs) (map f rest)
  leaves_mapped p [] rest pp all w = rw w refl
  leaves_mapped p (x ∷ xs) rest pp all (inl (same, w)) =
      inl (ap f same, leaves_mapped p xs rest pp (λ z c. all z (contains_later x z xs c)) w)
  leaves_mapped p (x ∷ xs) rest pp all (inr (other, (us, e, w))) =
      inr (
        λ same. other (one x p (all x (contains_head x xs)) pp same),
        (map f us, rw e refl, leaves_mapped p xs us pp (λ z c. all z (contains_later x z xs c)) w),
      )

  firsts_mapped : (seen xs rest : List X) → ((x : X) → Contains seen x → P x) → ((x : X) → Contains xs x → P x) → IsFirstsOf seen xs rest
      → IsFirstsOf (map f seen) (map f xs) (map f rest)
  firsts_mapped seen [] rest ps all w = rw w refl
  firsts_mapped seen (x ∷ xs) rest ps all (inl (before, w)) =
      inl (image_in f seen x before, firsts_mapped seen xs rest ps (λ z c. all z (contains_later x z xs c)) w)
  firsts_mapped seen (x ∷ xs) rest ps all (inr (new, (us, e, w))) =
      inr (
        λ c. let i = image_of f seen (f x) c in
            new (subst (Contains seen) (one i.0 x (ps i.0 i.1) (all x (contains_head x xs)) i.2) i.1),
        (
          map f us,
          rw e refl,
          subst (λ zs. IsFirstsOf zs (map f xs) (map f us)) (map-append f seen (x ∷ []))
              (firsts_mapped (seen ++ x ∷ []) xs us
              (λ z c. elim (Contains-push_cases seen x z c) [ inl before ↦ ps z before | inr here ↦ rw (← here) (all x (contains_head x xs)) ])
              (λ z c. all z (contains_later x z xs c)) w),
        ),
      )

  pub joined_mapped : (left right : List X) (here there : X) (next : List X) → ((x : X) → Contains left x → P x)
      → ((x : X) → Contains right x → P x) → IsJoined left right here there next
      → IsJoined (map f left) (map f right) (f here) (f there) (map f next)
  joined_mapped left right here there next on_left on_right step =
      record {
        on_left = image_in f left here step.on_left;
        on_right = image_in f right there step.on_right;
        left_rest = map f step.left_rest;
        left_is = leaves_mapped here left step.left_rest (on_left here step.on_left) on_left step.left_is;
        right_rest = map f step.right_rest;
        right_is = leaves_mapped there right step.right_rest (on_right there step.on_right) on_right step.right_is;
        firsts =
            subst (λ zs. IsFirstsOf [] zs (map f next)) (map-append f step.left_rest step.right_rest)
            (firsts_mapped [] (step.left_rest ++ step.right_rest) next (λ x c. absurd (contains_none x c))
            (λ x c. elim (Contains-append_cases step.left_rest step.right_rest x c) [
              | inl at ↦ on_left x (left_was here left step.left_rest x step.left_is at).0
              | inr at ↦ on_right x (left_was there right step.right_rest x step.right_is at).0
            ]) step.firsts);
      }

-- Items can be told apart.
pub same_or_other : (m n : ℕ) → (m ≡ n) ⊎ (m ≢ n)
same_or_other zero zero = inl refl
same_or_other zero (suc n) = inr (λ e. absurd (omega arith))
same_or_other (suc m) zero = inr (λ e. absurd (omega arith))
same_or_other (suc m) (suc n) =
    elim (same_or_other m n) [ inl e ↦ inl (ap suc e) | inr other ↦ inr (λ e. other (omega arith)) ]

same_sign : (a b : Bool) → (a ≡ b) ⊎ (a ≢ b)
same_sign true true = inl refl
same_sign true false = inr (λ e. true≢false e)
same_sign false true = inr (λ e. true≢false (sym e))
same_sign false false = inl refl

pub are_same_or_not : (x z : SignedTerm) → (x ≡ z) ⊎ (x ≢ z)
are_same_or_not x z =
    elim (same_or_other x.term z.term) [
      | inl e ↦
          elim (same_sign x.negative z.negative) [
            | inl f ↦ inl (ap (λ n. record { term = n; negative = x.negative }) e ∙ ap (λ b. record { term = z.term; negative = b }) f)
            | inr other ↦ inr (λ same. other (ap (λ (y : SignedTerm). y.negative) same))
          ]
      | inr other ↦ inr (λ same. other (ap (λ (y : SignedTerm). y.term) same))
    ]

leaves_exist : (p : SignedTerm) (xs : List SignedTerm) → (rest : List SignedTerm) × LeavesWithout p xs rest
leaves_exist p [] = ([], refl)
leaves_exist p (x ∷ xs) =
    let more = leaves_exist p xs in
    elim (are_same_or_not x p) [
      | inl same ↦ (more.0, inl (same, more.1))
      | inr other ↦ (x ∷ more.0, inr (other, (more.0, refl, more.1)))
    ]

-- two lists have the same items but for one
abbrev AreSameBut : SignedTerm → List SignedTerm → List SignedTerm → Type 0
AreSameBut p seen others = (x : SignedTerm) → x ≢ p → Contains seen x ↔ Contains others x

same_one_more : (p t : SignedTerm) (seen others : List SignedTerm) → AreSameBut p seen others → AreSameBut p (seen ++ t ∷ []) (others ++ t ∷ [])
same_one_more p t seen others same x other = (
  λ c. elim (Contains-push_cases seen t x c) [
    | inl before ↦ Contains-append_left others (t ∷ []) x ((same x other).0 before)
    | inr here ↦ Contains-append_right others (t ∷ []) x (rw (← here) (contains_head t []))
  ],
  λ c. elim (Contains-push_cases others t x c) [
    | inl before ↦ Contains-append_left seen (t ∷ []) x ((same x other).1 before)
    | inr here ↦ Contains-append_right seen (t ∷ []) x (rw (← here) (contains_head t []))
  ],
)

same_but_that : (p t : SignedTerm) (seen others : List SignedTerm) → t ≡ p → AreSameBut p seen others → AreSameBut p (seen ++ t ∷ []) others
same_but_that p t seen others is same x other = (
  λ c. elim (Contains-push_cases seen t x c) [
    | inl before ↦ (same x other).0 before
    | inr here ↦ absurd (other (sym here ∙ is))
  ],
  λ c. Contains-append_left seen (t ∷ []) x ((same x other).1 c),
)

-- To drop repeats and to take an item away comes to the same in both orders. First the same for an item that is new, where it is so behind it.
taken_of_new : (p t : SignedTerm) (seen others ts vs rest taken : List SignedTerm) → AreSameBut p seen others → (Contains seen t → ⊥)
    → ((others rest taken : List SignedTerm) → AreSameBut p (seen ++ t ∷ []) others → LeavesWithout p vs taken → LeavesWithout p ts rest
    → IsFirstsOf others rest taken)
    → LeavesWithout p (t ∷ vs) taken → LeavesWithout p (t ∷ ts) rest → IsFirstsOf others rest taken
taken_of_new p t seen others ts vs rest taken same new more (inl (is, w)) (inl (again, v)) =
    more others rest taken (same_but_that p t seen others is same) w v
taken_of_new p t seen others ts vs rest taken same new more (inl (is, w)) (inr (other, v)) = absurd (other is)
taken_of_new p t seen others ts vs rest taken same new more (inr (other, w)) (inl (is, v)) = absurd (other is)
taken_of_new p t seen others ts vs rest taken same new more (inr (other, (ws, d, w))) (inr (again, (us, c, v))) =
    rw c (inr (
      λ there. new ((same t other).1 there),
      (ws, d, more (others ++ t ∷ []) us ws (same_one_more p t seen others same) w v),
    ))

taken_of_firsts : (p : SignedTerm) (seen others xs firsts rest taken : List SignedTerm) → AreSameBut p seen others → IsFirstsOf seen xs firsts
    → LeavesWithout p firsts taken → LeavesWithout p xs rest → IsFirstsOf others rest taken
taken_of_firsts p seen others [] firsts rest taken same f w v = rw v (rw f at w)
taken_of_firsts p seen others (t ∷ ts) firsts rest taken same (inl (before, f)) w (inl (is, v)) =
    taken_of_firsts p seen others ts firsts rest taken same f w v
taken_of_firsts p seen others (t ∷ ts) firsts rest taken same (inl (before, f)) w (inr (other, (us, e, v))) =
    rw e (inl ((same t other).0 before, taken_of_firsts p seen others ts firsts us taken same f w v))
taken_of_firsts p seen others (t ∷ ts) firsts rest taken same (inr (new, (vs, e, f))) w v =
    taken_of_new p t seen others ts vs rest taken same new
    (λ more less some alike w v. taken_of_firsts p (seen ++ t ∷ []) more ts vs less some alike f w v) (rw e at w) v

firsts_of_new : (seen ts us ys list : List SignedTerm) (t : SignedTerm) → (Contains seen t → ⊥)
    → ((list : List SignedTerm) → IsFirstsOf (seen ++ t ∷ []) (us ++ ys) list → IsFirstsOf (seen ++ t ∷ []) (ts ++ ys) list)
    → IsFirstsOf seen (t ∷ (us ++ ys)) list → IsFirstsOf seen (t ∷ (ts ++ ys)) list
firsts_of_new seen ts us ys list t new more (inl (before, g)) = absurd (new before)
firsts_of_new seen ts us ys list t new more (inr (again, (vs, d, g))) = inr (new, (vs, d, more vs g))

firsts_of_firsts : (seen xs firsts ys list : List SignedTerm) → IsFirstsOf seen xs firsts
    → IsFirstsOf seen (firsts ++ ys) list → IsFirstsOf seen (xs ++ ys) list
firsts_of_firsts seen [] firsts ys list f g = rw f at g
firsts_of_firsts seen (t ∷ ts) firsts ys list (inl (before, f)) g = inl (before, firsts_of_firsts seen ts firsts ys list f g)
firsts_of_firsts seen (t ∷ ts) firsts ys list (inr (new, (us, e, f))) g =
    firsts_of_new seen ts us ys list t new (λ some g. firsts_of_firsts (seen ++ t ∷ []) ts us ys some f g) (rw e at g)

-- repeats of the clause on the left play no part where it is joined
pub repeats_play_no_part : (left firsts right : List SignedTerm) (here there : SignedTerm) (result : List SignedTerm) → IsFirstsOf [] left firsts
    → IsJoined firsts right here there result → IsJoined left right here there result
repeats_play_no_part left firsts right here there result f step =
    let rest = leaves_exist here left in
    record {
      on_left = firsts_had left firsts here f step.on_left;
      on_right = step.on_right;
      left_rest = rest.0;
      left_is = rest.1;
      right_rest = step.right_rest;
      right_is = step.right_is;
      firsts = firsts_of_firsts [] rest.0 step.left_rest step.right_rest result
          (taken_of_firsts here [] [] left firsts rest.0 step.left_rest (λ x other. (λ c. c, λ c. c)) f step.left_is rest.1) step.firsts;
    }
