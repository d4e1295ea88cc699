-- Lists of lines beside those that they stand for.
use Rattle.std.proofs.Common.{◌≡◌, ◌<◌, zero, suc, List, [], ◌∷◌, ◌++◌, length, get_or, take, ℕ, All, pos, refl, sym, ap, subst, arith}
use Rattle.std.specs.List.{AllZip}
use Rattle.std.proofs.lemmas.List.Elements.{All-head, All-tail}
use Rattle.sym_table.specs.Table.{Table}
use Rattle.term_pool.specs.Views.{TermsView}
use Rattle.rule_model.specs.Arith.{CoefficientLine}
use Rattle.scaled_sums.specs.Relations.{relation_meant}
use Rattle.linear_lines.specs.declared.lines.Line.{Line}
use Rattle.linear_lines.specs.Lines.{StandsForLine}
use Rattle.line_judging.specs.Weights.{IsLineOfTerms}

-- the place of a line among others
pub record IsSplit (R : Line → CoefficientLine → Type 0) (lines : List Line) (i : ℕ) (line : Line) (ls : List CoefficientLine) : Type 0 where
  pub front : List CoefficientLine
  pub here : CoefficientLine
  pub rest : List CoefficientLine
  pub whole : ls ≡ front ++ here ∷ rest
  pub zip : AllZip R (take i lines) front
  pub is : R line here

pub split : (R : Line → CoefficientLine → Type 0) (lines : List Line) (i : ℕ) (line : Line) (ls : List CoefficientLine) → AllZip R lines ls → i < length lines → line ≡ get_or lines i line → IsSplit R lines i line ls
split R [] i line ls zip below e = absurd (omega (arith, below))
split R (x ∷ lines) i line [] zip below e = absurd zip
split R (x ∷ lines) zero line (l ∷ ls) zip below e =
    record { front = []; here = l; rest = ls; whole = refl; zip = tt; is = subst (λ y. R y l) (sym e) zip.0 }
split R (x ∷ lines) (suc i) line (l ∷ ls) zip below e =
    let more = split R lines i line ls zip.1 (omega (arith, below)) e in
    record { front = l ∷ more.front; here = more.here; rest = more.rest; whole = ap (λ ks. l ∷ ks) more.whole; zip = (zip.0, more.zip); is = more.is }

-- the last line of some
pub record IsEnd (R : Line → CoefficientLine → Type 0) (lines : List Line) (line : Line) (ls : List CoefficientLine) : Type 0 where
  pub front : List CoefficientLine
  pub last : CoefficientLine
  pub whole : ls ≡ front ++ last ∷ []
  pub zip : AllZip R lines front
  pub is : R line last

pub end_of : (R : Line → CoefficientLine → Type 0) (lines : List Line) (line : Line) (ls : List CoefficientLine) → AllZip R (lines ++ line ∷ []) ls → IsEnd R lines line ls
end_of R [] line [] zip = absurd zip
end_of R [] line (l ∷ []) zip = record { front = []; last = l; whole = refl; zip = tt; is = zip.0 }
end_of R [] line (l ∷ k ∷ ls) zip = absurd zip.1
end_of R (x ∷ lines) line [] zip = absurd zip
end_of R (x ∷ lines) line (l ∷ ls) zip =
    let more = end_of R lines line ls zip.1 in
    record { front = l ∷ more.front; last = more.last; whole = ap (λ ks. l ∷ ks) more.whole; zip = (zip.0, more.zip); is = more.is }

-- lines of terms stand for some
module _ (s : Table) (v : TermsView) where
  pub some_line : (line : Line) → IsLineOfTerms s v line → (l : CoefficientLine) × StandsForLine s v line l
  some_line line is = (
    record {
      comparison = record { relation = relation_meant line.comparison.relation; first = is.first.means; second = is.second.means };
      ratio = record { num = line.numerator; den = pos line.denominator };
    },
    record {
      comparison = record { relation = refl; first = is.first.refers; second = is.second.refers };
      numerator = refl;
      denominator = refl;
    },
  )

  pub some_lines : (lines : List Line) → All (IsLineOfTerms s v) lines → (ls : List CoefficientLine) × AllZip (StandsForLine s v) lines ls
  some_lines [] all = ([], tt)
  some_lines (line ∷ lines) all =
      let here = some_line line (All-head (IsLineOfTerms s v) line lines all) in
      let rest = some_lines lines (All-tail (IsLineOfTerms s v) line lines all) in
      (here.0 ∷ rest.0, (here.1, rest.1))
