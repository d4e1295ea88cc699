use Rattle.std.proofs.Common.{◌+◌, take, List, Contains}
use Rattle.std.specs.HashMap.{get}
use Rattle.std.specs.Prelude.{nat_eq}
use Rattle.term_model.specs.Terms.{Term}
use Rattle.term_pool.specs.Placing.{PlacesCellsOf}
use Rattle.term_pool.specs.Views.{KeepsTerms}
use Rattle.elab_resolution.specs.Counted.{top_in}
use Rattle.elab_resolution.specs.Numbered.{AreAllSpelled, AreLevelsSpelled, AreTowersOf, HasTower, IsNumbering}
use Rattle.elab_resolution.specs.Spellings.{IsNearTo}
use Rattle.elab_resolution.specs.declared.counting.Counted.{Counted}
use Rattle.elab_resolution.proofs.towers.number_all.Given as goal

abbrev pub invariant-literals : goal.invariant-literals
invariant-literals l = record {
  numbering : IsNumbering l.symbols l.terms l.numbering;
  towers : AreTowersOf (get nat_eq l.tops) l.numbering;
  tower : (x : Counted) → Contains (take l.literal-index l.literals) x → HasTower l.numbering x.bare (top_in (get nat_eq l.tops) x.bare + 3);
  spelled : (roots : List Term) → AreLevelsSpelled l.symbols l.fn.terms (get nat_eq l.tops) l.literals roots →
      AreAllSpelled l.symbols l.terms roots l.numbering;
  placed : (roots : List Term) → AreLevelsSpelled l.symbols l.fn.terms (get nat_eq l.tops) l.literals roots →
      PlacesCellsOf l.symbols l.fn.terms.pass l.terms.pass (IsNearTo roots);
  keeps : KeepsTerms l.fn.terms l.terms;
}
