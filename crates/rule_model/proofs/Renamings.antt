-- What unit propagation says of clauses it says of the same clauses with other names for their atoms.
use Rattle.std.proofs.Common.{◌≡◌, ◌⊎◌, ◌↔◌, inl, inr, ℕ, zero, suc, ◌<◌, not, List, [], ◌∷◌, ◌++◌, length, refl, sym, ◌∙◌, ap, arith, All}
use Rattle.std.specs.List.{AllZip}
use Rattle.std.proofs.lemmas.List.{get_or_default}
use Rattle.term_model.proofs.Zips.{zip_length, zip_push}
use Rattle.rule_model.specs.declared.literal.Literal.{Literal}
use Rattle.rule_model.specs.declared.literal.Literal.TheVariants.{Plain, Always, Never}
use Rattle.rule_model.specs.Literals.{negation_of}
use Rattle.rule_model.specs.Consequence.{IsFalse, literal_at, premise_at, literal_of, IsOnly, Leads, Contradicts, Follows}
use Rattle.rule_model.specs.Renaming.{KeepsAtomsApart, IsLiteralImage, AreLiteralImages, AreAllImages}

-- lists in step
pub zip_flipped : {X Y : Type 0} (R : X → Y → Type 0) (S : Y → X → Type 0) → ((x : X) (y : Y) → R x y → S y x) → (xs : List X) (ys : List Y) → AllZip R xs ys → AllZip S ys xs
zip_flipped R S turn [] [] z = tt
zip_flipped R S turn [] (y ∷ ys) z = absurd z
zip_flipped R S turn (x ∷ xs) [] z = absurd z
zip_flipped R S turn (x ∷ xs) (y ∷ ys) z = (turn x y z.0, zip_flipped R S turn xs ys z.1)

literal_here : {A B : Type 0} (R : A → B → Type 0) (c : List (Literal A)) (d : List (Literal B)) (k : ℕ) → AreLiteralImages R c d → k < length c → IsLiteralImage R (literal_at c k) (literal_at d k)
literal_here R [] [] k z h = absurd (omega (arith, h))
literal_here R [] (m ∷ ms) k z h = absurd z
literal_here R (l ∷ ls) [] k z h = absurd z
literal_here R (l ∷ ls) (m ∷ ms) zero z h = z.0
literal_here R (l ∷ ls) (m ∷ ms) (suc k) z h = literal_here R ls ms k z.1 (omega (arith, h))

premise_here : {A B : Type 0} (R : A → B → Type 0) (ps : List (List (Literal A))) (qs : List (List (Literal B))) (i : ℕ) → AreAllImages R ps qs → i < length ps → AreLiteralImages R (premise_at ps i) (premise_at qs i)
premise_here R [] [] i z h = absurd (omega (arith, h))
premise_here R [] (d ∷ ds) i z h = absurd z
premise_here R (c ∷ cs) [] i z h = absurd z
premise_here R (c ∷ cs) (d ∷ ds) zero z h = z.0
premise_here R (c ∷ cs) (d ∷ ds) (suc i) z h = premise_here R cs ds i z.1 (omega (arith, h))

-- images the other way round
abbrev pub flip : {A B : Type 0} → (A → B → Type 0) → B → A → Type 0
flip R x a = R a x

flipped_one : {A B : Type 0} (R : A → B → Type 0) → KeepsAtomsApart R → KeepsAtomsApart (flip R)
flipped_one R one x y a b r s = let same = one a b x y r s in (same.1, same.0)

flipped_image : {A B : Type 0} (R : A → B → Type 0) (l : Literal A) (m : Literal B) → IsLiteralImage R l m → IsLiteralImage (flip R) m l
flipped_image R (Plain a s) (Plain x t) (r, e) = (r, sym e)
flipped_image R (Plain a s) Always i = absurd i
flipped_image R (Plain a s) Never i = absurd i
flipped_image R Always (Plain x t) i = absurd i
flipped_image R Always Always i = tt
flipped_image R Always Never i = absurd i
flipped_image R Never (Plain x t) i = absurd i
flipped_image R Never Always i = absurd i
flipped_image R Never Never i = tt

pub flipped_images : {A B : Type 0} (R : A → B → Type 0) (c : List (Literal A)) (d : List (Literal B)) → AreLiteralImages R c d → AreLiteralImages (flip R) d c
flipped_images R c d z = zip_flipped (IsLiteralImage R) (IsLiteralImage (flip R)) (flipped_image R) c d z

pub flipped_all : {A B : Type 0} (R : A → B → Type 0) (ps : List (List (Literal A))) (qs : List (List (Literal B))) → AreAllImages R ps qs → AreAllImages (flip R) qs ps
flipped_all R ps qs z = zip_flipped (AreLiteralImages R) (AreLiteralImages (flip R)) (flipped_images R) ps qs z

opposite_image : {A B : Type 0} (R : A → B → Type 0) (l : Literal A) (m : Literal B) → IsLiteralImage R l m → IsLiteralImage R (negation_of l) (negation_of m)
opposite_image R (Plain a s) (Plain x t) (r, e) = (r, ap not e)
opposite_image R (Plain a s) Always i = absurd i
opposite_image R (Plain a s) Never i = absurd i
opposite_image R Always (Plain x t) i = absurd i
opposite_image R Always Always i = tt
opposite_image R Always Never i = absurd i
opposite_image R Never (Plain x t) i = absurd i
opposite_image R Never Always i = absurd i
opposite_image R Never Never i = tt

never_image : {A B : Type 0} (R : A → B → Type 0) (m : Literal B) → IsLiteralImage R Never m → m ≡ Never
never_image R (Plain x t) i = absurd i
never_image R Always i = absurd i
never_image R Never i = refl

-- images of one literal are one
image_same : {A B : Type 0} (R : A → B → Type 0) → KeepsAtomsApart R → (l : Literal A) (m n : Literal B) → IsLiteralImage R l m → IsLiteralImage R l n → m ≡ n
image_same R one (Plain a s) (Plain x t) (Plain y u) (r, e) (q, f) =
    let atom : x ≡ y = (one a a x y r q).0 refl in
    let sign : t ≡ u = sym e ∙ f in
    cc
image_same R one (Plain a s) (Plain x t) Always i j = absurd j
image_same R one (Plain a s) (Plain x t) Never i j = absurd j
image_same R one (Plain a s) Always n i j = absurd i
image_same R one (Plain a s) Never n i j = absurd i
image_same R one Always (Plain x t) n i j = absurd i
image_same R one Always Always (Plain y u) i j = absurd j
image_same R one Always Always Always i j = refl
image_same R one Always Always Never i j = absurd j
image_same R one Always Never n i j = absurd i
image_same R one Never (Plain x t) n i j = absurd i
image_same R one Never Always n i j = absurd i
image_same R one Never Never (Plain y u) i j = absurd j
image_same R one Never Never Always i j = absurd j
image_same R one Never Never Never i j = refl

module _ {A B : Type 0} (R : A → B → Type 0) (one : KeepsAtomsApart R) where
  images_same : (l k : Literal A) (m n : Literal B) → IsLiteralImage R l m → IsLiteralImage R k n → l ≡ k → m ≡ n
  images_same l k m n i j e = image_same R one l m n i (rw e j)

  -- what is false, and what is not, has a false image, and one that is not
  false_carried : (fs : List (Literal A)) (gs : List (Literal B)) (l : Literal A) (m : Literal B) → AreLiteralImages R fs gs → IsLiteralImage R l m → IsFalse fs l → IsFalse gs m
  false_carried fs gs l m z i (inl never) = inl (never_image R m (rw (← never) i))
  false_carried fs gs l m z i (inr (k, h, here)) =
      let long = zip_length (IsLiteralImage R) fs gs z in
      let within : k < length gs = omega arith in
      let at : literal_at fs k ≡ l = get_or_default fs k Never l h ∙ here in
      inr (k, within, get_or_default gs k m Never within ∙ images_same (literal_at fs k) l (literal_at gs k) m (literal_here R fs gs k z h) i at)

  contradicts_carried : (g : List (Literal A)) (h : List (Literal B)) → AreLiteralImages R g h → Contradicts g → Contradicts h
  contradicts_carried g h z (l, (k, below, here), gone) =
      let long = zip_length (IsLiteralImage R) g h z in
      let within : k < length h = omega arith in
      let at : literal_at g k ≡ l = get_or_default g k Never l below ∙ here in
      let image : IsLiteralImage R l (literal_at h k) = rw at at (literal_here R g h k z below) in (
        literal_at h k,
        (k, within, get_or_default h k (literal_at h k) Never within),
        false_carried g h (negation_of l) (negation_of (literal_at h k)) z (opposite_image R l (literal_at h k) image) gone,
      )

-- a literal that is not false has an image that is not
not_false_carried : {A B : Type 0} (R : A → B → Type 0) → KeepsAtomsApart R → (fs : List (Literal A)) (gs : List (Literal B)) (l : Literal A) (m : Literal B) → AreLiteralImages R fs gs → IsLiteralImage R l m → ¬ IsFalse fs l → ¬ IsFalse gs m
not_false_carried R one fs gs l m z i stays gone =
    stays (false_carried (flip R) (flipped_one R one) gs fs m l (flipped_images R fs gs z) (flipped_image R l m i) gone)

module _ {A B : Type 0} (R : A → B → Type 0) (one : KeepsAtomsApart R) where
  all_false_carried : (fs : List (Literal A)) (gs : List (Literal B)) (c : List (Literal A)) (d : List (Literal B)) → AreLiteralImages R fs gs → AreLiteralImages R c d → All (IsFalse fs) c → All (IsFalse gs) d
  all_false_carried fs gs c d z y all k e h =
      let long = zip_length (IsLiteralImage R) c d y in
      let within : k < length c = omega arith in
      rw (get_or_default d k e Never h)
      (false_carried R one fs gs (literal_at c k) (literal_at d k) z (literal_here R c d k y within) (all k Never within))

  only_carried : (fs : List (Literal A)) (gs : List (Literal B)) (c : List (Literal A)) (d : List (Literal B)) (j : ℕ) → AreLiteralImages R fs gs → AreLiteralImages R c d → IsOnly fs c j → IsOnly gs d j
  only_carried fs gs c d j z y only =
      record {
        place = (let long = zip_length (IsLiteralImage R) c d y in let p = only.place in omega arith);
        not_false = not_false_carried R one fs gs (literal_at c j) (literal_at d j) z (literal_here R c d j y only.place) only.not_false;
        others = others;
      }
    where
      others : All (λ l. IsFalse gs l ⊎ (l ≡ literal_at d j)) d
      others k e h =
          let long = zip_length (IsLiteralImage R) c d y in
          let within : k < length c = omega arith in
          let image = literal_here R c d k y within in
          rw (get_or_default d k e Never h)
          (elim (only.others k Never within) [
            | inl gone ↦ inl (false_carried R one fs gs (literal_at c k) (literal_at d k) z image gone)
            | inr same ↦ inr (images_same R one (literal_at c k) (literal_at c j) (literal_at d k) (literal_at d j) image (literal_here R c d j y only.place) same)
          ])

  leads_carried : (ps : List (List (Literal A))) (qs : List (List (Literal B))) → AreAllImages R ps qs → (fs : List (Literal A)) (gs : List (Literal B)) (units : List (ℕ × ℕ)) (last : ℕ) → AreLiteralImages R fs gs → Leads ps fs units last → Leads qs gs units last
  leads_carried ps qs zs fs gs [] last z conflict =
      record {
        place = (let long = zip_length (AreLiteralImages R) ps qs zs in let p = conflict.place in omega arith);
        all_false = all_false_carried fs gs (premise_at ps last) (premise_at qs last) z (premise_here R ps qs last zs conflict.place) conflict.all_false;
      }
  leads_carried ps qs zs fs gs (u ∷ us) last z leads =
      let here = premise_here R ps qs u.0 zs leads.0.place in (
        record {
          place = (let long = zip_length (AreLiteralImages R) ps qs zs in let p = leads.0.place in omega arith);
          only = only_carried fs gs (premise_at ps u.0) (premise_at qs u.0) u.1 z here leads.0.only;
        },
        leads_carried ps qs zs (fs ++ negation_of (literal_of ps u) ∷ []) (gs ++ negation_of (literal_of qs u) ∷ []) us last
            (zip_push (IsLiteralImage R) fs gs (negation_of (literal_of ps u)) (negation_of (literal_of qs u)) z
            (opposite_image R (literal_of ps u) (literal_of qs u) (literal_here R (premise_at ps u.0) (premise_at qs u.0) u.1 here leads.0.only.place)))
            leads.1,
      )

  follows_carried : (ps : List (List (Literal A))) (qs : List (List (Literal B))) (g : List (Literal A)) (h : List (Literal B)) → AreAllImages R ps qs → AreLiteralImages R g h → Follows ps g → Follows qs h
  follows_carried ps qs g h zs z (inl contradicts) = inl (contradicts_carried R one g h z contradicts)
  follows_carried ps qs g h zs z (inr leads) = inr (leads.0, leads.1, leads_carried ps qs zs g h leads.0 leads.1 z leads.2)

-- Where literals correspond place by place, by any relation of atoms that is one to one, what is said of the ones is said
-- of the others: of a trail, of a conclusion that contradicts itself, and of what follows.
module _ {A B : Type 0} (R : A → B → Type 0) (one : KeepsAtomsApart R) where
  pub leads_renamed : (ps : List (List (Literal A))) (qs : List (List (Literal B))) (fs : List (Literal A)) (gs : List (Literal B)) (units : List (ℕ × ℕ)) (last : ℕ) → AreAllImages R ps qs → AreLiteralImages R fs gs → Leads ps fs units last ↔ Leads qs gs units last
  leads_renamed ps qs fs gs units last zs z = (
    leads_carried R one ps qs zs fs gs units last z,
    leads_carried (flip R) (flipped_one R one) qs ps (flipped_all R ps qs zs) gs fs units last (flipped_images R fs gs z),
  )

  pub contradicts_renamed : (g : List (Literal A)) (h : List (Literal B)) → AreLiteralImages R g h → Contradicts g ↔ Contradicts h
  contradicts_renamed g h z = (
    contradicts_carried R one g h z,
    contradicts_carried (flip R) (flipped_one R one) h g (flipped_images R g h z),
  )

  pub follows_renamed : (ps : List (List (Literal A))) (qs : List (List (Literal B))) (g : List (Literal A)) (h : List (Literal B)) → AreAllImages R ps qs → AreLiteralImages R g h → Follows ps g ↔ Follows qs h
  follows_renamed ps qs g h zs z = (
    follows_carried R one ps qs g h zs z,
    follows_carried (flip R) (flipped_one R one) qs ps h g (flipped_all R ps qs zs) (flipped_images R g h z),
  )
