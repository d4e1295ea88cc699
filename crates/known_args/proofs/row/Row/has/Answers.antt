use Rattle.std.proofs.Common.{◌≡◌, ◌↔◌, ◌<◌, IsTrue, Contains, length, subst, rules}
use Rattle.known_args.proofs.TableLemmas.{firsts_have}
use Rattle.known_args.proofs.row.Row.has.Goals as goal

pub returns-then-len-gt-FEW : goal.returns-then-len-gt-FEW
returns-then-len-gt-FEW c =
    let is : c.self.inside.items.items ≡ c.args.self.now.1 = search rules in
    let many : 32 < length c.self.inside.items.items = search rules in
    let table = firsts_have _ _ c.args.x (c.self.invariant many) in
    subst (λ xs. IsTrue c.is_in.result ↔ Contains xs c.args.x) is (λ e. table.0 (c.is_in.ensures.0 e), λ h. c.is_in.ensures.1 (table.1 h))
