-- What a call that makes a term has returned and placed.
use Rattle.std.proofs.Common.{◌≡◌, ◌⊎◌, inl, inr, Option, Some, Result, Ok, Err, refl, ap}
use Rattle.std.specs.Result.{IsErrAnd}
use Rattle.pair_pool.specs.Trees.{Tree}
use Rattle.pair_pool.specs.Views.{PassView, IsPlaced}
use Rattle.sym_table.specs.Table.{Table}
use Rattle.term_pool.specs.Building.{PlacesOnlyIn, IsCellIn, IsFullIn}
use Rattle.term_pool.specs.Views.{TermsView}
use Rattle.term_pool.specs.StandsFor.{StandsFor}
use Rattle.term_pool.specs.Placing.{IsWantedCell, PlacesCellsOf}
use Rattle.term_names.specs.Making.{IsExpected, IsMade, Makes}
use Rattle.problem_text.specs.TypedTerms.{Typed}
use Rattle.term_expansion.specs.Values.{IsValue}
use Rattle.term_names.specs.declared.faults.ReadFault.{ReadFault}
use Rattle.term_expansion.specs.declared.values.Value.{Value}
use Rattle.term_expansion.specs.SymbolsAndTerms.{both}

-- only cells of the term's tree were placed
pub places-cells : (s : Table) (old new : PassView) (t : Typed) (tree : Tree) → StandsFor s tree t.tree → PlacesOnlyIn old new tree → PlacesCellsOf s old new (IsExpected (Some t))
places-cells s old new t tree stands only r a b p = go (only r a b p)
  where
    go : IsPlaced old r a b ⊎ IsCellIn new a b tree → IsPlaced old r a b ⊎ IsWantedCell s new (IsExpected (Some t)) a b
    go (inl q) = inl q
    go (inr q) = inr (record { whole = t.tree; wanted = (t, refl, refl); tree = tree; stands = stands; cell = q })

pub made : (s : Table) (old new : TermsView) (t : Typed) (tree : Tree) (c : Value) → StandsFor s tree t.tree → PlacesOnlyIn old.pass new.pass tree → IsValue (both s new) c t → Makes old (both s new) (Some t) (Ok (Some c))
made s old new t tree c stands only is = record {
  answer = (t, refl, is);
  placed = places-cells s old.pass new.pass t tree stands only;
}

pub full : (s : Table) (old new : TermsView) (t : Typed) (tree : Tree) (result : Result (Option Value) ReadFault) → StandsFor s tree t.tree → PlacesOnlyIn old.pass new.pass tree → IsFullIn new.pass tree → result ≡ Err ReadFault.PoolFull → Makes old (both s new) (Some t) result
full s old new t tree result stands only no_room e =
    rw e (record {
      answer = record { whole = t.tree; wanted = (t, refl, refl); tree = tree; stands = stands; full = no_room };
      placed = places-cells s old.pass new.pass t tree stands only;
    })

-- nothing was made
pub unchanged : (s : Table) (v : TermsView) (o : Option Typed) (result : Result (Option Value) ReadFault) → IsMade (both s v) o result → Makes v (both s v) o result
unchanged s v o result h = record { answer = h; placed = λ r a b p. inl p }

-- a fault that is handed on
pub handed_on : {X : Type 0} (result : Result X ReadFault) (fault : ReadFault) → IsErrAnd result (λ e. e ≡ fault) → result ≡ Err fault
handed_on (Ok x) fault h = absurd h
handed_on (Err e) fault h = ap Err h
