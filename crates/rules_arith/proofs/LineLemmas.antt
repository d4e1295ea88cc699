-- Literals and coefficients come to one list of lines.
use Rattle.std.proofs.Common.{◌≡◌, ◌≤◌, ◌<◌, ℕ, zero, suc, ◌+◌, ℤ, pos, ◌<ℤ◌, unsigned_abs, List, [], ◌∷◌, ◌++◌, length, take, get_or, slice_get, slice_index_or, map, true, false, Option, Some, None, All, refl, sym, ap, subst, ◌∙◌, add-one, arith}
use Rattle.std.specs.List.{AllZip}
use Rattle.std.proofs.lemmas.Int.{ints}
use Rattle.std.proofs.lemmas.List.Elements.{All-head, All-tail}
use Rattle.sym_table.specs.Table.{Table}
use Rattle.term_model.specs.Terms.{Term}
use Rattle.term_pool.specs.Views.{TermsView, RefersTo, ReferToAll}
use Rattle.line_judging.specs.declared.judging.Absurdity.{Absurdity}
use Rattle.line_judging.specs.Sums.{AreAbsurd, TellsSum, TellsAbsurdity}
use Rattle.linear_lines.specs.declared.lines.Line.{Line}
use Rattle.linear_lines.specs.Lines.{StandsForLine}
use Rattle.term_parts.specs.declared.answers.Answer.{Answer}
use Rattle.proof_store.specs.declared.answers.Ratio.{Ratio}
use Rattle.proof_store.specs.Ratios.{fraction_of_ratio}
use Rattle.rule_model.specs.Arith.{Comparison, CoefficientLine, AreLines, IsLinearStep, IsLeastMultiple, MeetsLaGeneric, IsWideLaGeneric, denial, lines_weight, limit}
use Rattle.rule_model.specs.Proofs.{Fraction}
use Rattle.rule_model.specs.WellFormed.{IsLowest}
use Rattle.term_parts.specs.Judging.{Tells}
use Rattle.rules_arith.specs.Lines.{ComesToLine, IsLineFound, AreLinesFound}
use Rattle.rules_arith.specs.Steps.{absurd_answer}

-- a literal and a coefficient come to one line
same_line : (o : Option Comparison) (q : Fraction) (l m : CoefficientLine) → o ≡ Some l.comparison → l.ratio ≡ q → o ≡ Some m.comparison → m.ratio ≡ q → l ≡ m
same_line o q l m e f g h =
    let comparisons : ◌≡◌ {A = Option Comparison} (Some l.comparison) (Some m.comparison) = sym e ∙ g in
    let one : l.comparison ≡ m.comparison = cc in
    let other : l.ratio ≡ m.ratio = f ∙ sym h in
    ap (λ (c : Comparison). record { comparison = c; ratio = l.ratio }) one ∙ ap (λ (r : Fraction). record { comparison = m.comparison; ratio = r }) other

pub same_lines : (ts : List Term) (qs : List Fraction) (ls ms : List CoefficientLine) → AreLines ts qs ls → AreLines ts qs ms → ls ≡ ms
same_lines [] [] [] [] h k = refl
same_lines (t ∷ ts) (q ∷ qs) (l ∷ ls) (m ∷ ms) h k =
    ap (λ x. x ∷ ls) (same_line (denial t) q l m h.0 h.1 k.0 k.1) ∙ ap (λ xs. m ∷ xs) (same_lines ts qs ls ms h.4 k.4)
same_lines [] [] [] (m ∷ ms) h k = absurd k
same_lines [] [] (l ∷ ls) ms h k = absurd h
same_lines [] (q ∷ qs) ls ms h k = absurd h
same_lines (t ∷ ts) [] ls ms h k = absurd h
same_lines (t ∷ ts) (q ∷ qs) [] ms h k = absurd h
same_lines (t ∷ ts) (q ∷ qs) (l ∷ ls) [] h k = absurd k

pub same_lengths : (ts : List Term) (qs : List Fraction) (ls : List CoefficientLine) → AreLines ts qs ls → length ts ≡ length qs
same_lengths [] [] [] h = refl
same_lengths (t ∷ ts) (q ∷ qs) (l ∷ ls) h = ap suc (same_lengths ts qs ls h.4)
same_lengths [] [] (l ∷ ls) h = absurd h
same_lengths [] (q ∷ qs) ls h = absurd h
same_lengths (t ∷ ts) [] ls h = absurd h
same_lengths (t ∷ ts) (q ∷ qs) [] h = absurd h

-- the line at a place, and one more line
line_at : (ts : List Term) (qs : List Fraction) (ls : List CoefficientLine) (k : ℕ) (t : Term) (q : Fraction) → slice_get ts k ≡ Some t → slice_get qs k ≡ Some q → AreLines ts qs ls → (l : CoefficientLine) × ComesToLine t q l
line_at (t ∷ ts) (q ∷ qs) (l ∷ ls) zero u r e f h =
    let t_is : t ≡ u = cc in
    let q_is : q ≡ r = cc in
    (l, record { denied = subst (λ x. denial x ≡ Some l.comparison) t_is h.0; ratio = h.1 ∙ q_is; numbers = record { first = h.2; second = h.3 } })
line_at (t ∷ ts) (q ∷ qs) (l ∷ ls) (suc k) u r e f h = line_at ts qs ls k u r e f h.4
line_at [] qs ls k u r e f h = absurd cc
line_at (t ∷ ts) [] ls k u r e f h = absurd h
line_at (t ∷ ts) (q ∷ qs) [] k u r e f h = absurd h

lines_more : (ts : List Term) (qs : List Fraction) (ls : List CoefficientLine) (k : ℕ) (t : Term) (q : Fraction) (l : CoefficientLine) → slice_get ts k ≡ Some t → slice_get qs k ≡ Some q → AreLines (take k ts) (take k qs) ls → ComesToLine t q l → AreLines (take (suc k) ts) (take (suc k) qs) (ls ++ l ∷ [])
lines_more (t ∷ ts) (q ∷ qs) [] zero u r l e f h is =
    let t_is : u ≡ t = cc in
    let q_is : r ≡ q = cc in
    (subst (λ x. denial x ≡ Some l.comparison) t_is is.denied, is.ratio ∙ q_is, is.numbers.first, is.numbers.second, tt)
lines_more (t ∷ ts) (q ∷ qs) (m ∷ ls) zero u r l e f h is = absurd h
lines_more (t ∷ ts) (q ∷ qs) (m ∷ ls) (suc k) u r l e f h is = (h.0, h.1, h.2, h.3, lines_more ts qs ls k u r l e f h.4 is)
lines_more (t ∷ ts) (q ∷ qs) [] (suc k) u r l e f h is = absurd h
lines_more [] qs ls k u r l e f h is = absurd cc
lines_more (t ∷ ts) [] ls k u r l e f h is = absurd cc

zip_more : (R : Line → CoefficientLine → Type 0) (lines : List Line) (ls : List CoefficientLine) (line : Line) (l : CoefficientLine) → AllZip R lines ls → R line l → AllZip R (lines ++ line ∷ []) (ls ++ l ∷ [])
zip_more R [] [] line l zip is = (is, tt)
zip_more R (x ∷ lines) (m ∷ ls) line l zip is = (zip.0, zip_more R lines ls line l zip.1 is)
zip_more R [] (m ∷ ls) line l zip is = absurd zip
zip_more R (x ∷ lines) [] line l zip is = absurd zip

-- the term at a place
pub term_at : (s : Table) (v : TermsView) (rs : List ℕ) (ts : List Term) (k d : ℕ) → ReferToAll s v rs ts → k < length rs → (t : Term) × (slice_get ts k ≡ Some t) × RefersTo s v (get_or rs k d) t
term_at s v [] ts k d refer below = absurd (omega (arith, below))
term_at s v (r ∷ rs) [] k d refer below = absurd refer
term_at s v (r ∷ rs) (t ∷ ts) zero d refer below = (t, refl, refer.0)
term_at s v (r ∷ rs) (t ∷ ts) (suc k) d refer below = term_at s v rs ts k d refer.1 (omega (arith, below))

module _ (s : Table) (v : TermsView) (ts : List Term) (qs : List Fraction) where
  pub no_line : (k : ℕ) (t : Term) (q : Fraction) (lines : List Line) → slice_get ts k ≡ Some t → slice_get qs k ≡ Some q → IsLineFound s v t q None → AreLinesFound s v ts qs lines false
  no_line k t q lines e f none ls are =
      let here = line_at ts qs ls k t q e f are in
      none here.0 here.1

  pub one_more : (k : ℕ) (t : Term) (q : Fraction) (lines : List Line) (line : Line) → slice_get ts k ≡ Some t → slice_get qs k ≡ Some q → AreLinesFound s v (take k ts) (take k qs) lines true → IsLineFound s v t q (Some line) → AreLinesFound s v (take (k + 1) ts) (take (k + 1) qs) (lines ++ line ∷ []) true
  one_more k t q lines line e f so_far here =
      subst (λ n. AreLinesFound s v (take n ts) (take n qs) (lines ++ line ∷ []) true) (sym (add-one k))
      (so_far.0 ++ here.0 ∷ [], lines_more ts qs so_far.0 k t q here.0 e f so_far.1 here.1, zip_more (StandsForLine s v) lines so_far.0 line here.0 so_far.2 here.2)

  -- no lines, and lines that are judged
  pub none_tells : ((ls : List CoefficientLine) → ¬ AreLines ts qs ls) → Tells Answer.NotMet (IsWideLaGeneric (Some qs) [] ts) (MeetsLaGeneric (Some qs) [] ts)
  none_tells none = (λ h. go h.form, λ h. go h.form)
    where
      go : IsLinearStep (Some qs) [] ts → ⊥
      go form =
          let same : form.fractions ≡ qs = (let e = form.given in cc) in
          none form.lines (subst (λ xs. AreLines ts xs form.lines) same form.read)

  module _ (ls : List CoefficientLine) (are : AreLines ts qs ls) (multiple : ℕ) (least : IsLeastMultiple ls multiple) where
    form_is : IsLinearStep (Some qs) [] ts
    form_is = record { fractions = qs; lines = ls; multiple = multiple; none = refl; given = refl; read = are; least = least }

    lines_are : (form : IsLinearStep (Some qs) [] ts) → form.lines ≡ ls
    lines_are form =
        let same : form.fractions ≡ qs = (let e = form.given in cc) in
        same_lines ts qs form.lines ls (subst (λ xs. AreLines ts xs form.lines) same form.read) are

    -- by the multiple of a step that has a form
    least_of : (form : IsLinearStep (Some qs) [] ts) → IsLeastMultiple ls form.multiple
    least_of form = subst (λ xs. IsLeastMultiple xs form.multiple) (lines_are form) form.least

    wide_of : (wide : IsWideLaGeneric (Some qs) [] ts) → limit ≤ lines_weight wide.form.multiple ls
    wide_of wide = subst (λ xs. limit ≤ lines_weight wide.form.multiple xs) (lines_are wide.form) wide.wide

    absurd_of : (met : MeetsLaGeneric (Some qs) [] ts) → AreAbsurd met.form.multiple ls
    absurd_of met =
        subst (AreAbsurd met.form.multiple) (lines_are met.form)
        (let by = met.absurd_by in record { bound = by.bound; added = by.added; sum = record { cancelled = by.cancelled; absurd_bound = by.absurd_bound } })

    pub answer_tells : (a : Absurdity) → ((m : ℕ) → IsLeastMultiple ls m → TellsSum m ls a) → Tells (absurd_answer a) (IsWideLaGeneric (Some qs) [] ts) (MeetsLaGeneric (Some qs) [] ts)
    unfolding form_is
    answer_tells Absurdity.Yes told =
        let here = told multiple least in (
          λ w. (let less = (told w.form.multiple (least_of w.form)).0 in let wide = wide_of w in absurd (omega (arith, less, wide))),
          record {
            form = form_is;
            absurd_by = record { bound = here.1.bound; cancelled = here.1.sum.cancelled; added = here.1.added; absurd_bound = here.1.sum.absurd_bound };
          },
        )
    answer_tells Absurdity.No told = (
      λ w. (let less = (told w.form.multiple (least_of w.form)).0 in let wide = wide_of w in absurd (omega (arith, less, wide))),
      λ met. (told met.form.multiple (least_of met.form)).1 (absurd_of met),
    )
    answer_tells Absurdity.TooWide told = record { form = form_is; wide = told multiple least }

  pub lines_tell : (lines : List Line) (a : Absurdity) → AreLinesFound s v ts qs lines true → ((ls : List CoefficientLine) → AllZip (StandsForLine s v) lines ls → TellsAbsurdity ls a) → Tells (absurd_answer a) (IsWideLaGeneric (Some qs) [] ts) (MeetsLaGeneric (Some qs) [] ts)
  lines_tell lines a found test =
      let told = test found.0 found.2 in
      answer_tells found.0 found.1 told.multiple told.least a told.told

-- a denominator over 0, and a coefficient at a place
pub some_below : (z : ℤ) → pos 0 <ℤ z → 0 < unsigned_abs z
some_below z over = omega (arith, ints, over)

pub ratio_at : (qs : List Ratio) (k : ℕ) (d : Ratio) → k < length qs → slice_get (map fraction_of_ratio qs) k ≡ Some (fraction_of_ratio (slice_index_or qs k d))
ratio_at [] k d below = absurd (omega (arith, below))
ratio_at (q ∷ qs) zero d below = refl
ratio_at (q ∷ qs) (suc k) d below = ratio_at qs k d (omega (arith, below))

pub lowest_at : (qs : List Ratio) (k : ℕ) (d : Ratio) → All IsLowest (map fraction_of_ratio qs) → k < length qs → IsLowest (fraction_of_ratio (slice_index_or qs k d))
lowest_at [] k d all below = absurd (omega (arith, below))
lowest_at (q ∷ qs) zero d all below = All-head IsLowest (fraction_of_ratio q) (map fraction_of_ratio qs) all
lowest_at (q ∷ qs) (suc k) d all below = lowest_at qs k d (All-tail IsLowest (fraction_of_ratio q) (map fraction_of_ratio qs) all) (omega (arith, below))
