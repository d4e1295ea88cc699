use Rattle.smtlib_reader.specs.Sessions.{session_in}
use Rattle.smtlib_reader.proofs.CommandSteps.{nothing_performed, checked_performed}
use Rattle.smtlib_reader.proofs.performing.perform.Goals as goal

pub returns-in-WithoutEffect-clause-performs : goal.returns-in-WithoutEffect-clause-performs
returns-in-WithoutEffect-clause-performs c = λ sc is. nothing_performed _ _ _ sc is c.args.settings.now.replaces_lets c.args.items.now c.args.command c.in-WithoutEffect.is

pub returns-in-SetLogic-clause-performs : goal.returns-in-SetLogic-clause-performs
returns-in-SetLogic-clause-performs c = λ sc is. rw c.in-SetLogic.is (c.set_logic.ensures.performs c.args.settings.now c.args.symbols.now c.args.terms.now sc is)

pub returns-in-DeclareSort-clause-performs : goal.returns-in-DeclareSort-clause-performs
returns-in-DeclareSort-clause-performs c = λ sc is. rw c.in-DeclareSort.is (c.declare_sort.ensures.performs c.args.terms.now (session_in c.args.settings.now c.args.session.now) sc is)

pub returns-in-CheckSat-clause-performs : goal.returns-in-CheckSat-clause-performs
returns-in-CheckSat-clause-performs c = λ sc is. checked_performed _ _ _ sc is c.args.settings.now.replaces_lets c.args.items.now c.args.command c.in-CheckSat.is
