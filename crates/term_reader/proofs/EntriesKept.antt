-- Entries that are kept, and one name more.
use Rattle.std.proofs.Common.{◌≡◌, ◌+◌, [], ◌∷◌, ◌++◌, length, length-append, arith, ap, ◌∙◌}
use Rattle.term_names.specs.Scope.{OwnNames}
use Rattle.term_names.specs.declared.entries.Named as named
use Rattle.term_reader.specs.KeptEntries.{KeepsEntries}

pub none_named : (old new : OwnNames) → new.own ≡ old.own → KeepsEntries old new
none_named old new e = let n : length new.own.named ≡ length old.own.named = ap (λ o. length o.named) e in record { more = omega (arith, n); same = λ h. e }

pub one_named : (old new : OwnNames) (x : named.Named) → new.own.named ≡ old.own.named ++ x ∷ [] → KeepsEntries old new
one_named old new x e =
    let n : length new.own.named ≡ length old.own.named + 1 = ap length e ∙ length-append old.own.named (x ∷ []) in
    record { more = omega (arith, n); same = λ h. absurd (omega (arith, n, h)) }

pub kept_then : (a b c : OwnNames) → KeepsEntries a b → KeepsEntries b c → KeepsEntries a c
kept_then a b c h k =
    let m = h.more in
    let n = k.more in
    record { more = omega (arith, m, n); same = λ e. k.same (omega (arith, m, n, e)) ∙ h.same (omega (arith, m, n, e)) }
