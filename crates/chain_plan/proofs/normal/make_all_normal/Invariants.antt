use Rattle.std.proofs.Common.{◌≡◌, ◌<◌, ◌≤◌, ◌+◌, ℕ, [], length, take, All}
use Rattle.std.specs.Prelude.{slice_index_or}
use Rattle.clause_chain.specs.Chaining.{clauses_of}
use Rattle.chain_plan.specs.Carried.{AreSound}
use Rattle.chain_plan.specs.Normals.{NormalClause, IsPlainForm, IsStanding}
use Rattle.chain_plan.specs.Towers.{nots_in}
use Rattle.chain_plan.proofs.normal.make_all_normal.Given as goal

abbrev pub invariant-clauses : goal.invariant-clauses
invariant-clauses l = record {
  sound : AreSound l.spellings (clauses_of l.given) l.fn.steps.items → AreSound l.spellings (clauses_of l.given) l.steps.items;
  so_many : length l.normals.items ≡ l.place;
  each : (i : ℕ) (n : NormalClause) → i < length l.normals.items →
      IsPlainForm l.spellings (slice_index_or (clauses_of l.given) i []) (slice_index_or l.normals.items i n);
  stand : All (IsStanding (clauses_of l.given) l.steps.items) l.normals.items;
  count : length l.steps.items ≤ length l.fn.steps.items + nots_in l.spellings (take l.place (clauses_of l.given));
}
