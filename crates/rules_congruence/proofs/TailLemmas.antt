-- Arguments that hang together up to what both lists end with.
use Rattle.std.proofs.Common.{◌≡◌, ◌≢◌, ◌↔◌, inl, inr, ℕ, List, [], ◌∷◌, ◌++◌, length, refl, sym, ap, ◌∙◌, subst, arith, length-append}
use Rattle.std.specs.List.{AllZip}
use Rattle.std.proofs.lemmas.List.{append-nil}
use Rattle.rule_model.specs.Congruence.{Head, IsLinked, AreDifferences, ArePlaces}
use Rattle.sym_table.specs.Table.{Table}
use Rattle.term_model.proofs.Zips.{zip_append, zip_length}
use Rattle.term_model.specs.Flips.{same}
use Rattle.term_model.specs.Terms.{Term}
use Rattle.term_pool.specs.Views.{TermsView, RefersTo, ReferToAll}
use Rattle.rules_congruence.specs.Applications.{AreCut}
use Rattle.rules_congruence.specs.declared.uses.Uses.{Uses}
use Rattle.rules_congruence.specs.Uses.{Together}

-- arguments that hang together are as many on each side
differences_length : (ps : List (List Term)) (ts us : List Term) → AreDifferences ps ts us → length ts ≡ length us
differences_length ps [] [] h = refl
differences_length ps [] (u ∷ us) h = absurd h
differences_length ps (t ∷ ts) [] h = absurd h
differences_length ps (t ∷ ts) (u ∷ us) (inl (e, more)) = let ih = differences_length ps ts us more in omega (arith, ih)
differences_length ps (t ∷ ts) (u ∷ us) (inr (apart, (rest, is, more))) = let ih = differences_length rest ts us more in omega (arith, ih)

places_length : (ps : List (List Term)) (ts us : List Term) → ArePlaces ps ts us → length ts ≡ length us
places_length ps [] [] h = refl
places_length ps [] (u ∷ us) h = absurd h
places_length ps (t ∷ ts) [] h = absurd h
places_length ps (t ∷ ts) (u ∷ us) (rest, is, more) = let ih = places_length rest ts us more in omega (arith, ih)

pub together_length : (uses : Uses) (head : Head) (ps : List (List Term)) (ts us : List Term) → Together uses head ps ts us → length ts ≡ length us
together_length Uses.Any head ps ts us (inl zip) = zip_length (IsLinked ps) ts us zip
together_length Uses.Any head ps ts us (inr cross) = ap length cross.one ∙ sym (ap length cross.other)
together_length Uses.Differing head ps ts us h = differences_length ps ts us h
together_length Uses.Each head ps ts us h = places_length ps ts us h

-- what both end with links nothing else
self_linked : (ps : List (List Term)) (ts : List Term) → AllZip (IsLinked ps) ts ts
self_linked ps [] = tt
self_linked ps (t ∷ ts) = (inl (same t), self_linked ps ts)

linked_prefix : (ps : List (List Term)) (ts us tail : List Term) → length ts ≡ length us → AllZip (IsLinked ps) (ts ++ tail) (us ++ tail) → AllZip (IsLinked ps) ts us
linked_prefix ps [] [] tail long h = tt
linked_prefix ps [] (u ∷ us) tail long h = absurd (omega (arith, long))
linked_prefix ps (t ∷ ts) [] tail long h = absurd (omega (arith, long))
linked_prefix ps (t ∷ ts) (u ∷ us) tail long h = (h.0, linked_prefix ps ts us tail (omega (arith, long)) h.1)

self_differences : (ts : List Term) → AreDifferences [] ts ts
self_differences [] = refl
self_differences (t ∷ ts) = inl (refl, self_differences ts)

no_differences : (ps : List (List Term)) (ts : List Term) → AreDifferences ps ts ts → ps ≡ []
no_differences ps [] h = h
no_differences ps (t ∷ ts) (inl (e, more)) = no_differences ps ts more
no_differences ps (t ∷ ts) (inr (apart, rest)) = absurd (apart refl)

differences_tail : (ps : List (List Term)) (ts us tail : List Term) → AreDifferences ps ts us → AreDifferences ps (ts ++ tail) (us ++ tail)
differences_tail ps [] [] tail h = subst (λ qs. AreDifferences qs tail tail) (sym h) (self_differences tail)
differences_tail ps [] (u ∷ us) tail h = absurd h
differences_tail ps (t ∷ ts) [] tail h = absurd h
differences_tail ps (t ∷ ts) (u ∷ us) tail (inl (e, more)) = inl (e, differences_tail ps ts us tail more)
differences_tail ps (t ∷ ts) (u ∷ us) tail (inr (apart, (rest, is, more))) = inr (apart, (rest, is, differences_tail rest ts us tail more))

differences_prefix : (ps : List (List Term)) (ts us tail : List Term) → length ts ≡ length us → AreDifferences ps (ts ++ tail) (us ++ tail) → AreDifferences ps ts us
differences_prefix ps [] [] tail long h = no_differences ps tail h
differences_prefix ps [] (u ∷ us) tail long h = absurd (omega (arith, long))
differences_prefix ps (t ∷ ts) [] tail long h = absurd (omega (arith, long))
differences_prefix ps (t ∷ ts) (u ∷ us) tail long (inl (e, more)) = inl (e, differences_prefix ps ts us tail (omega (arith, long)) more)
differences_prefix ps (t ∷ ts) (u ∷ us) tail long (inr (apart, (rest, is, more))) = inr (apart, (rest, is, differences_prefix rest ts us tail (omega (arith, long)) more))

module _ (s : Table) (v : TermsView) (uses : Uses) (ls rs : List ℕ) (ts us : List Term) (cut : AreCut s v uses ls rs ts us) where
  lengths : length cut.prefix ≡ length cut.others
  lengths =
      sym (zip_length (RefersTo s v) ls cut.prefix cut.left) ∙ (cut.long ∙ zip_length (RefersTo s v) rs cut.others cut.right)

  -- the whole lists
  pub linked_cut : (ps : List (List Term)) → AllZip (IsLinked ps) cut.prefix cut.others ↔ AllZip (IsLinked ps) ts us
  linked_cut ps = (
    λ h. subst (λ xs. AllZip (IsLinked ps) xs us) (sym cut.left_is)
        (subst (λ xs. AllZip (IsLinked ps) (cut.prefix ++ cut.tail) xs) (sym cut.right_is)
        (zip_append (IsLinked ps) cut.prefix cut.others cut.tail cut.tail h (self_linked ps cut.tail))),
    λ h. linked_prefix ps cut.prefix cut.others cut.tail lengths
        (subst (λ xs. AllZip (IsLinked ps) (cut.prefix ++ cut.tail) xs) cut.right_is (subst (λ xs. AllZip (IsLinked ps) xs us) cut.left_is h)),
  )

  pub differences_cut : (ps : List (List Term)) → AreDifferences ps cut.prefix cut.others ↔ AreDifferences ps ts us
  differences_cut ps = (
    λ h. subst (λ xs. AreDifferences ps xs us) (sym cut.left_is)
        (subst (λ xs. AreDifferences ps (cut.prefix ++ cut.tail) xs) (sym cut.right_is) (differences_tail ps cut.prefix cut.others cut.tail h)),
    λ h. differences_prefix ps cut.prefix cut.others cut.tail lengths
        (subst (λ xs. AreDifferences ps (cut.prefix ++ cut.tail) xs) cut.right_is (subst (λ xs. AreDifferences ps xs us) cut.left_is h)),
  )

  no_tail : (cut.tail ≢ [] → ⊥) → (tail : List Term) → cut.tail ≡ tail → cut.tail ≡ []
  no_tail none [] e = e
  no_tail none (t ∷ tail) e = absurd (none (λ f. absurd (let g = sym e ∙ f in cc)))

  -- nothing is left out
  pub uncut : (cut.tail ≢ [] → ⊥) → ReferToAll s v ls ts × ReferToAll s v rs us
  uncut none =
      let e = no_tail none cut.tail refl in (
        subst (ReferToAll s v ls) (sym (cut.left_is ∙ (ap (λ xs. cut.prefix ++ xs) e ∙ append-nil cut.prefix))) cut.left,
        subst (ReferToAll s v rs) (sym (cut.right_is ∙ (ap (λ xs. cut.others ++ xs) e ∙ append-nil cut.others))) cut.right,
      )

  pub uncut_of_each : uses ≡ Uses.Each → ReferToAll s v ls ts × ReferToAll s v rs us
  uncut_of_each each = uncut (λ some. (cut.cut some).0 each)

  -- of two references, or of two terms
  pub uncut_of_two : length ls ≡ 2 → ReferToAll s v ls ts × ReferToAll s v rs us
  uncut_of_two two = uncut (λ some. let three = (cut.cut some).1 in omega (arith, two, three))

  pub uncut_to_two : length ts ≡ 2 → ReferToAll s v ls ts × ReferToAll s v rs us
  uncut_to_two two =
      uncut (λ some.
      let three = (cut.cut some).1 in
      let read = zip_length (RefersTo s v) ls cut.prefix cut.left in
      let all = ap length cut.left_is ∙ length-append cut.prefix cut.tail in
      omega (arith, two, three, read, all))
