use Rattle.std.proofs.Common.{ap, refl, sym, ◌∙◌, subst, List, ℕ}
use Rattle.sexpr.specs.declared.causes.Cause.TheVariants.{Repeated}
use Rattle.term_expansion.specs.Free.{AreFreeLeaves}
use Rattle.rule_model.specs.Replacement.{free_variables}
use Rattle.problem_text.specs.Scripts.{is_taken}
use Rattle.text_items.specs.Stepping.{name_in}
use Rattle.term_names.specs.Known.{base_of}
use Rattle.term_names.specs.Scope.{known_in}
use Rattle.term_names.proofs.KnownEntries.{Puts-known}
use Rattle.term_reader.proofs.GivenNames.{name_refused, name_given}
use Rattle.term_reader.proofs.naming.give_name.Goals as goal

pub place_at-place-requires : goal.place_at-place-requires
place_at-place-requires c = c.requires.name.inside

pub returns-then-is_taken-clause-given : goal.returns-then-is_taken-clause-given
returns-then-is_taken-clause-given c =
    λ s v t sc free is.
    let place = c.place_at-place.ensures in
    name_refused t (name_in c.args.items.now c.args.at) sc _
    (sym (c.is_taken.ensures s v sc is ∙ ap (is_taken sc) c.name_of-name.ensures) ∙ c.if-is_taken.true)
    (c.refused.ensures ∙ ap (λ (p : ℕ). record { cause = Repeated; at = p }) place)

pub returns-clause-given : goal.returns-clause-given
returns-clause-given c =
    λ s v t sc free is.
    let same = c.name_of-name.ensures in
    name_given s v (known_in c.args.settings.now c.args.names.now) (known_in c.args.settings.now c.give_name.new.self) sc _ _ t
    (record { value = c.args.term.now.value.now; free = c.in_ok-owned.owned }) same
    (record {
      entry = Puts-known (base_of c.args.settings.now.base) c.args.names.now.own c.give_name.new.self.own _ _ c.in_ok-give_name.ensures.names;
      named = c.in_ok-give_name.ensures.named;
      macros = c.in_ok-give_name.ensures.macros;
      base = refl;
    })
    is (sym (c.is_taken.ensures s v sc is ∙ ap (is_taken sc) same) ∙ c.if-is_taken.false)
    (record {
      value = free.value;
      low = free.low;
      free = subst (λ (leaves : List ℕ). AreFreeLeaves s leaves (free_variables t.tree)) (sym c.in_ok-owned.ensures.items) free.free;
    })
