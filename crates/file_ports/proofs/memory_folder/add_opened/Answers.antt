use Rattle.std.proofs.Common.{◌≡◌, ◌∷◌, ◌++◌, [], length, arith}
use Rattle.std.proofs.lemmas.Grind.{common_steps}
use Rattle.file_ports.proofs.Rests.{rests_of-push_other}
use Rattle.file_ports.proofs.memory_folder.add_opened.Goals as goal

pub returns-clause-others : goal.returns-clause-others
returns-clause-others c = λ n other.
    let items : c.push.new.self.items ≡ c.args.opened.now.items ++ record { file = c.args.file; place = 0 } ∷ [] = grind (arith, common_steps) in
    let last : c.in-Ok.number ≡ length c.args.opened.now.items = grind (arith, common_steps) in
    rw items (rests_of-push_other _ _ _ n (λ e. other (grind arith)))
