use Rattle.rules_resolution.proofs.Ends.{shown_by_end, none_by_end, sound_by_end}
use Rattle.rules_resolution.proofs.decide.follows.Goals as goal

pub returns-clause-shown : goal.returns-clause-shown
returns-clause-shown c =
    let is = rw (c.deref_mut.ensures.value, c.deref_mut-2.ensures.value, c.in_ok-own.ensures.same, c.in_ok-own_goal.ensures.items) at c.in_ok-end.ensures in
    rw c.trail_of.ensures (shown_by_end _ _ _ c.in_ok-end.end is)

pub returns-clause-none : goal.returns-clause-none
returns-clause-none c =
    let is = rw (c.deref_mut.ensures.value, c.deref_mut-2.ensures.value, c.in_ok-own.ensures.same, c.in_ok-own_goal.ensures.items) at c.in_ok-end.ensures in
    rw c.trail_of.ensures (none_by_end _ _ _ c.in_ok-end.end is)

pub returns-clause-sound : goal.returns-clause-sound
returns-clause-sound c =
    let is = rw (c.deref_mut.ensures.value, c.deref_mut-2.ensures.value, c.in_ok-own.ensures.same, c.in_ok-own_goal.ensures.items) at c.in_ok-end.ensures in
    rw c.trail_of.ensures (sound_by_end _ _ _ c.in_ok-end.end is)
