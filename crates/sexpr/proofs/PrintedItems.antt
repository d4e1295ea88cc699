-- Cited by crates above. Printed items are read back.
use Rattle.std.proofs.Common.{Bool, true, false, if◌then◌else◌, ◌≡◌, ℕ, ◌+◌, None, Some, Ok, List, [], ◌∷◌, ◌++◌, length, drop}
use Rattle.std.proofs.Common.{refl, sym, ap, ◌∙◌, subst, arith, append_assoc, length-append}
use Rattle.sexpr.specs.declared.lexing.Token.{Token}
use Rattle.sexpr.specs.declared.lexing.TokenKind.TheVariants.{Open, Close, Text, Quoted, Word}
use Rattle.sexpr.specs.Tokens.{Read, ReadsAs, AreTokens}
use Rattle.sexpr.specs.Grammar.{SkipsTo, nothing}
use Rattle.sexpr.specs.Items.{Item, word, quoted, string, list, Items, no_items, item, IsItem, AreItems, StandsForItems, symbol_name}
use Rattle.std.specs.List.{AllPass}
use Rattle.sexpr.specs.Characters.{is_between_bars}
use Rattle.sexpr.specs.Printing.{is_plain_symbol}
use Rattle.sexpr.proofs.ReadingBack.{reads_back_as}
use Rattle.sexpr.specs.Form.{HasForm}
use Rattle.sexpr.specs.Printed.{IsSpelledItem, AreSpelledItems, printed, printed_all, printed_lines, placed, placed_all, placed_lines}
use Rattle.sexpr.specs.Printed.{IsSymbolItem}
use Rattle.sexpr.proofs.Respelling.{end_next}
use Rattle.sexpr.proofs.PrintedTokens.{Stops, stops_close, stops_space, stops_line, Skips, skips_none, skips_space, skips_line}
use Rattle.sexpr.proofs.PrintedTokens.{past, token_of, token_read}

-- The item that is read where it is printed, with its tokens before any others. Tokens are a function of those behind them, so
-- that nothing has to be said of joined lists.
pub record ItemRead (text : List ℕ) (at start end : ℕ) (i : Item) : Type 0 where
  pub tokens : List Token → List Token
  pub reads : (more : List Token) (last : Read) → ReadsAs text end more last → ReadsAs text at (tokens more) last
  pub is : (more : List Token) → IsItem text (tokens more) (placed start i) more

pub record ItemsRead (text : List ℕ) (at : ℕ) (before : List ℕ) (end : ℕ) (is : Items) : Type 0 where
  pub tokens : List Token → List Token
  pub reads : (more : List Token) (last : Read) → ReadsAs text end more last → ReadsAs text at (tokens more) last
  pub are : (more : List Token) → AreItems text (tokens more) (placed_all at before is) more

stops_all : (is : Items) (rest : List ℕ) → Stops rest → Stops (printed_all (32 ∷ []) is ++ rest)
stops_all no_items rest stops = stops
stops_all (item i is) rest stops = stops_space _

mutual
  pub item_read : (i : Item) (text : List ℕ) (at start : ℕ) (rest : List ℕ) → SkipsTo (drop start text) (drop at text)
      → drop start text ≡ printed i ++ rest → Stops rest → IsSpelledItem i → ItemRead text at start (start + length (printed i)) i
  item_read (word place s) text at start rest skips here stops spelled =
      let t = token_read text at start Word s rest skips here spelled (stops Word) in
      record {
        tokens = λ more. token_of Word start s ∷ more;
        reads = λ more last r. (t.next, r);
        is = λ more. record { token = token_of Word start s; first = refl; same_kind = refl; same_place = refl; same_spelling = t.spelled };
      }
  item_read (quoted place s) text at start rest skips here stops spelled =
      let t = token_read text at start Quoted s rest skips here spelled (stops Quoted) in
      record {
        tokens = λ more. token_of Quoted start s ∷ more;
        reads = λ more last r. (t.next, r);
        is = λ more. record { token = token_of Quoted start s; first = refl; same_kind = refl; same_place = refl; same_spelling = t.spelled };
      }
  item_read (string place s) text at start rest skips here stops spelled =
      let t = token_read text at start Text s rest skips here spelled (stops Text) in
      record {
        tokens = λ more. token_of Text start s ∷ more;
        reads = λ more last r. (t.next, r);
        is = λ more. record { token = token_of Text start s; first = refl; same_kind = refl; same_place = refl; same_spelling = t.spelled };
      }
  item_read (list place items) text at start rest skips here stops spelled =
      let inner = printed_all [] items in
      let o = token_read text at start Open (40 ∷ []) ((inner ++ 41 ∷ []) ++ rest) skips here refl refl in
      let inside : drop (start + 1) text ≡ inner ++ 41 ∷ rest = o.left ∙ append_assoc inner (41 ∷ []) rest in
      let f = items_read items text (start + 1) [] (41 ∷ rest) skips_none inside (stops_close rest) spelled in
      let close : ℕ = start + 1 + length inner in
      let c = token_read text close close Close (41 ∷ []) rest nothing (past text (start + 1) inner (41 ∷ rest) inside) refl refl in
      let ends : start + length (printed (list place items)) ≡ close + 1 = omega (arith, length-append inner (41 ∷ [])) in
      let opening = token_of Open start (40 ∷ []) in
      let closing = token_of Close close (41 ∷ []) in
      record {
        tokens = λ more. opening ∷ f.tokens (closing ∷ more);
        reads = λ more last r. (o.next, f.reads (closing ∷ more) last (c.next, subst (λ n. ReadsAs text n more last) ends r));
        is = λ more. (
          opening,
          f.tokens (closing ∷ more),
          closing ∷ more,
          closing,
          record { first = refl; same_kind = refl },
          refl,
          f.are (closing ∷ more),
          record { first = refl; same_kind = refl },
        );
      }

  pub items_read : (is : Items) (text : List ℕ) (at : ℕ) (before rest : List ℕ) → Skips before
      → drop at text ≡ printed_all before is ++ rest → Stops rest → AreSpelledItems is → ItemsRead text at before (at + length (printed_all before is)) is
  items_read no_items text at before rest skips here stops spelled =
      record {
        tokens = λ more. more;
        reads = λ more last r. (let e : at + 0 ≡ at = omega arith in subst (λ n. ReadsAs text n more last) e r);
        are = λ more. refl;
      }
  items_read (item i is) text at before rest skips here stops spelled =
      let others = printed_all (32 ∷ []) is in
      let start : ℕ = at + length before in
      let parts : drop at text ≡ before ++ (printed i ++ (others ++ rest)) =
      here ∙ append_assoc before (printed i ++ others) rest ∙ ap (λ l. before ++ l) (append_assoc (printed i) others rest) in
      let begins : drop start text ≡ printed i ++ (others ++ rest) = past text at before (printed i ++ (others ++ rest)) parts in
      let skipped : SkipsTo (drop start text) (drop at text) =
      subst (λ l. SkipsTo (drop start text) l) (ap (λ l. before ++ l) begins ∙ sym parts) (skips (drop start text)) in
      let f = item_read i text at start (others ++ rest) skipped begins (stops_all is rest stops) spelled.0 in
      let behind = past text start (printed i) (others ++ rest) begins in
      let g = items_read is text (start + length (printed i)) (32 ∷ []) rest skips_space behind stops spelled.1 in
      let ends : at + length (printed_all before (item i is)) ≡ start + length (printed i) + length others =
      omega (arith, length-append before (printed i ++ others), length-append (printed i) others) in
      record {
        tokens = λ more. f.tokens (g.tokens more);
        reads = λ more last r. f.reads (g.tokens more) last (g.reads more last (subst (λ n. ReadsAs text n more last) ends r));
        are = λ more. (g.tokens more, f.is (g.tokens more), g.are more);
      }

pub record LinesRead (text : List ℕ) (at : ℕ) (before : List ℕ) (is : Items) : Type 0 where
  pub tokens : List Token
  pub read : AreTokens text at tokens
  pub are : AreItems text tokens (placed_lines at before is) []

pub lines_read : (is : Items) (text : List ℕ) (at : ℕ) (before : List ℕ) → Skips before → drop at text ≡ before ++ printed_lines is
    → AreSpelledItems is → LinesRead text at before is
lines_read no_items text at before skips here spelled =
    record { tokens = []; read = (end_next text at).1 (subst (λ l. SkipsTo [] l) (sym here) (skips [])); are = refl }
lines_read (item i is) text at before skips here spelled =
    let start : ℕ = at + length before in
    let begins : drop start text ≡ printed i ++ 10 ∷ printed_lines is = past text at before (printed i ++ 10 ∷ printed_lines is) here in
    let skipped : SkipsTo (drop start text) (drop at text) =
    subst (λ l. SkipsTo (drop start text) l) (ap (λ l. before ++ l) begins ∙ sym here) (skips (drop start text)) in
    let f = item_read i text at start (10 ∷ printed_lines is) skipped begins (stops_line _) spelled.0 in
    let behind = past text start (printed i) (10 ∷ printed_lines is) begins in
    let g = lines_read is text (start + length (printed i)) (10 ∷ []) skips_line behind spelled.1 in
    record {
      tokens = f.tokens g.tokens;
      read = f.reads g.tokens (Ok None) g.read;
      are = (g.tokens, f.is g.tokens, g.are);
    }

pub lines_stand : (is : Items) → AreSpelledItems is → StandsForItems (printed_lines is) (placed_lines 0 [] is)
lines_stand is spelled =
    let f = lines_read is (printed_lines is) 0 [] skips_none refl spelled in
    record { tokens = f.tokens; read = f.read; nested = f.are }

pub lines_have_form : (is : Items) → AreSpelledItems is → HasForm (printed_lines is)
lines_have_form is spelled = (placed_lines 0 [] is, lines_stand is spelled)

symbol_as : (name : List ℕ) → AllPass is_between_bars name → (plain : Bool) → is_plain_symbol name ≡ plain
    → IsSpelledItem (if plain then word 0 name else quoted 0 (124 ∷ (name ++ 124 ∷ [])))
    × (printed (if plain then word 0 name else quoted 0 (124 ∷ (name ++ 124 ∷ []))) ≡ (if plain then name else (124 ∷ (name ++ 124 ∷ []))))
    × ((at : ℕ) → symbol_name (placed at (if plain then word 0 name else quoted 0 (124 ∷ (name ++ 124 ∷ [])))) ≡ Some name)
symbol_as name inside true e = let r = reads_back_as name inside true e in (r.0, refl, λ at. r.1)
symbol_as name inside false e = let r = reads_back_as name inside false e in (r.0, refl, λ at. r.1)

pub symbol_is : (name : List ℕ) → AllPass is_between_bars name → IsSymbolItem name
symbol_is name inside = let r = symbol_as name inside (is_plain_symbol name) refl in record { spelled = r.0; same = r.1; named = r.2 }
