-- Cited by crates above. One part is read.
use Rattle.std.proofs.Common.{◌≡◌, ◌≢◌, ◌↔◌, ℕ, List, [], ◌∷◌, ◌++◌, length, Bool, true, false, Option, Some, None, IsTrue, not, refl, sym, ◌∙◌, ap}
use Rattle.std.specs.Option.{IfSome, IfNone}
use Rattle.sym_table.specs.Table.{Table}
use Rattle.term_model.specs.declared.symbols.Op.{Op}
use Rattle.term_model.specs.Terms.{Term, list_of}
use Rattle.term_pool.specs.Views.{TermsView, RefersTo, ReferToAll}
use Rattle.term_pool.proofs.References.{AreOne}
use Rattle.rule_model.specs.declared.letter.Letter.{Letter}
use Rattle.rule_model.proofs.ArgumentLists.{same_operands}
use Rattle.schema_match.specs.declared.letters.Letters.{Letters}
use Rattle.schema_match.specs.declared.part.Part.{Part}
use Rattle.schema_match.specs.declared.part.Part.TheVariants.{Any, Apply}
use Rattle.schema_match.specs.Pushing.{AddsArguments}
use Rattle.schema_match.specs.Letters.{slot, IsSettledAt}
use Rattle.term_parts.specs.Parts.{IsOver}
use Rattle.schema_match.specs.Reads.{Reads, Left, with_letter}
use Rattle.schema_match.proofs.OverLemmas.{over_term, is_over}
use Rattle.schema_match.proofs.ReferLemmas.{stack_top, stack_more}

-- the same terms, but that a letter stands for t
abbrev pub with_term : (Letter → Term) → Letter → Term → Letter → Term
with_term f Letter.A t Letter.A = t
with_term f Letter.B t Letter.B = t
with_term f Letter.C t Letter.C = t
with_term f Letter.D t Letter.D = t
with_term f _ t m = f m

module _ (s : Table) (v : TermsView) (one : AreOne s v) where
  new_agrees : (letters : Letters) (f : Letter → Term) (r : ℕ) (t : Term) (l m : Letter) → RefersTo s v r t → IsSettledAt s v (slot letters m) (f m) → IsSettledAt s v (slot (with_letter letters l r) m) (with_term f l t m)
  new_agrees letters f r t Letter.A Letter.A h k = h
  new_agrees letters f r t Letter.B Letter.B h k = h
  new_agrees letters f r t Letter.C Letter.C h k = h
  new_agrees letters f r t Letter.D Letter.D h k = h
  new_agrees letters f r t _ _ h k = k

  old_agrees : (letters : Letters) (f : Letter → Term) (r : ℕ) (l m : Letter) → slot letters l ≡ None → IsSettledAt s v (slot (with_letter letters l r) m) (f m) → IsSettledAt s v (slot letters m) (f m)
  old_agrees letters f r Letter.A Letter.A e h = rw e tt
  old_agrees letters f r Letter.B Letter.B e h = rw e tt
  old_agrees letters f r Letter.C Letter.C e h = rw e tt
  old_agrees letters f r Letter.D Letter.D e h = rw e tt
  old_agrees letters f r _ _ e h = h

  at_new : (letters : Letters) (f : Letter → Term) (r : ℕ) (l : Letter) → IsSettledAt s v (slot (with_letter letters l r) l) (f l) → RefersTo s v r (f l)
  at_new letters f r Letter.A h = h
  at_new letters f r Letter.B h = h
  at_new letters f r Letter.C h = h
  at_new letters f r Letter.D h = h

  same_agrees : (letters : Letters) (f : Letter → Term) (r : ℕ) (l m : Letter) → RefersTo s v r (f l) → IsSettledAt s v (slot letters m) (f m) → IsSettledAt s v (slot (with_letter letters l r) m) (f m)
  same_agrees letters f r Letter.A Letter.A h k = h
  same_agrees letters f r Letter.B Letter.B h k = h
  same_agrees letters f r Letter.C Letter.C h k = h
  same_agrees letters f r Letter.D Letter.D h k = h
  same_agrees letters f r _ _ h k = k

  module _ (whole rest : List Part) (ts : List Term) (items : List ℕ) (r : ℕ) where
    -- a letter is settled for the first time
    pub letter_new : (letters : Letters) (l : Letter) → slot letters l ≡ None → Left s v whole ts (Any l ∷ rest) letters (items ++ r ∷ []) → Left s v whole ts rest (with_letter letters l r) items
    letter_new letters l none left =
        let on_top = stack_top s v items r left.terms left.refer in
        let t = on_top.top in
        record {
          terms = on_top.below;
          refer = on_top.below_refer;
          example = with_term left.example l t;
          agrees = λ m. new_agrees letters left.example r t l m on_top.top_refers (left.agrees m);
          reads = λ f. (
            λ w.
                (let h = (left.reads f).0 w in
                let k : (f l ≡ t) × Reads f rest on_top.below = rw on_top.is at h.1 in (
                  λ m. same_agrees letters f r l m (rw k.0 on_top.top_refers) (h.0 m),
                  k.1,
                )),
            λ (agrees, reads). (left.reads f).1 (
              λ m. old_agrees letters f r l m none (agrees m),
              rw on_top.is ((one r r (f l) t (at_new letters f r l (agrees l)) on_top.top_refers).0 refl, reads),
            ),
          );
        }

    -- a letter that is settled stands for the term
    pub letter_same : (letters : Letters) (l : Letter) → slot letters l ≡ Some r → Left s v whole ts (Any l ∷ rest) letters (items ++ r ∷ []) → Left s v whole ts rest letters items
    letter_same letters l settled left =
        let on_top = stack_top s v items r left.terms left.refer in
        let t = on_top.top in
        record {
          terms = on_top.below;
          refer = on_top.below_refer;
          example = left.example;
          agrees = left.agrees;
          reads = λ f. (
            λ w.
                (let h = (left.reads f).0 w in
                let k : (f l ≡ t) × Reads f rest on_top.below = rw on_top.is at h.1 in (h.0, k.1)),
            λ (agrees, reads).
                (let here : RefersTo s v r (f l) = rw settled at (agrees l) in
                (left.reads f).1 (agrees, rw on_top.is ((one r r (f l) t here on_top.top_refers).0 refl, reads))),
          );
        }

    -- a letter that is settled stands for another term
    pub letter_other : (letters : Letters) (l : Letter) (q : ℕ) → slot letters l ≡ Some q → q ≢ r → Left s v whole ts (Any l ∷ rest) letters (items ++ r ∷ []) → (f : Letter → Term) → ¬ Reads f whole ts
    letter_other letters l q settled other left f w =
        let on_top = stack_top s v items r left.terms left.refer in
        let h = (left.reads f).0 w in
        let k : (f l ≡ on_top.top) × Reads f rest on_top.below = rw on_top.is at h.1 in
        let here : RefersTo s v q (f l) = rw settled at (h.0 l) in
        other ((one q r (f l) on_top.top here on_top.top_refers).1 k.0)

    -- an operator with its arguments
    pub operator_read : (letters : Letters) (op : Op) (n : ℕ) (new : List ℕ) → ((t : Term) → RefersTo s v r t → IsOver op n t) → AddsArguments v r n 0 items new → Left s v whole ts (Apply op n ∷ rest) letters (items ++ r ∷ []) → Left s v whole ts rest letters new
    operator_read letters op n new is adds left =
        let on_top = stack_top s v items r left.terms left.refer in
        let here = over_term op n on_top.top (is on_top.top on_top.top_refers) in
        let us = here.0 in
        let arguments : ReferToAll s v adds.arguments (list_of us) = rw here.3 at (adds.refer s on_top.top on_top.top_refers (ap length here.3 ∙ here.2)) in
        record {
          terms = list_of us ++ on_top.below;
          refer = rw adds.added (stack_more s v items adds.arguments on_top.below (list_of us) arguments on_top.below_refer);
          example = left.example;
          agrees = left.agrees;
          reads = λ f. (
            λ w.
                (let h = (left.reads f).0 w in
                let k : Reads f (Apply op n ∷ rest) (on_top.top ∷ on_top.below) = rw on_top.is at h.1 in
                (h.0, rw (same_operands op us k.0 (sym here.1 ∙ k.1)) k.3)),
            λ (agrees, reads). (left.reads f).1 (agrees, rw on_top.is (us, here.1, here.2, reads)),
          );
        }

    -- another term
    pub operator_other : (letters : Letters) (op : Op) (n : ℕ) → ((t : Term) → RefersTo s v r t → ¬ IsOver op n t) → Left s v whole ts (Apply op n ∷ rest) letters (items ++ r ∷ []) → (f : Letter → Term) → ¬ Reads f whole ts
    operator_other letters op n not left f w =
        let on_top = stack_top s v items r left.terms left.refer in
        let h = (left.reads f).0 w in
        let k : Reads f (Apply op n ∷ rest) (on_top.top ∷ on_top.below) = rw on_top.is at h.1 in
        not on_top.top on_top.top_refers (is_over op n on_top.top k.0 k.1 k.2)

    -- a letter is settled
    pub letter_read : (letters new : Letters) (l : Letter) (o : Option ℕ) (yes : Bool) → slot letters l ≡ o → IfSome o (λ q. (new ≡ letters) × (IsTrue yes ↔ (q ≡ r))) → IfNone o ((new ≡ with_letter letters l r) × IsTrue yes) → yes ≡ true → Left s v whole ts (Any l ∷ rest) letters (items ++ r ∷ []) → Left s v whole ts rest new items
    letter_read letters new l None b e some none is left = rw none.0 (letter_new letters l e left)
    letter_read letters new l (Some q) b e some none is left =
        rw some.0 (letter_same letters l (e ∙ ap Some (some.1.0 is)) left)

    -- a letter stands for another term
    pub letter_refused : (letters new : Letters) (l : Letter) (o : Option ℕ) (yes : Bool) → slot letters l ≡ o → IfSome o (λ q. (new ≡ letters) × (IsTrue yes ↔ (q ≡ r))) → IfNone o ((new ≡ with_letter letters l r) × IsTrue yes) → yes ≡ false → Left s v whole ts (Any l ∷ rest) letters (items ++ r ∷ []) → (f : Letter → Term) → ¬ Reads f whole ts
    letter_refused letters new l None b e some none is left = absurd (let yes_is = none.1 in cc)
    letter_refused letters new l (Some q) b e some none is left =
        letter_other letters l q e (λ same. absurd (let yes_is = some.1.1 same in cc)) left
