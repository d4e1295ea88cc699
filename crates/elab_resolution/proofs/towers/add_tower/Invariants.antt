use Rattle.std.proofs.Common.{◌≡◌, ◌+◌, length}
use Rattle.term_model.specs.Terms.{Term}
use Rattle.term_pool.specs.Placing.{PlacesCellsOf}
use Rattle.term_pool.specs.Views.{KeepsTerms, RefersTo}
use Rattle.elab_resolution.specs.Levels.{HasLevels, IsLevelAbove}
use Rattle.elab_resolution.specs.Numbered.{IsNumbering, KeepsNumbers, reference_of}
use Rattle.elab_resolution.proofs.towers.add_tower.Given as goal

abbrev pub invariant-levels : goal.invariant-levels
invariant-levels l = record {
  numbering : IsNumbering l.symbols l.terms l.numbering;
  kept : KeepsNumbers l.fn.numbering l.numbering;
  here : reference_of l.numbering.refs.items (length l.fn.numbering.nots.items) ≡ l.fn.bare;
  more : length l.numbering.nots.items ≡ length l.fn.numbering.nots.items + l.level + 1;
  tower : HasLevels l.numbering.nots.items (length l.fn.numbering.nots.items) l.level;
  placed : (t : Term) → RefersTo l.symbols l.fn.terms l.fn.bare t → PlacesCellsOf l.symbols l.fn.terms.pass l.terms.pass (IsLevelAbove t l.fn.height);
  keeps : KeepsTerms l.fn.terms l.terms;
}
