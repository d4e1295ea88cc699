-- Cited by crates above. A name that gets an entry of the reader's own is known by it, whatever the reader starts from.
use Rattle.std.proofs.Common.{◌≡◌, ℕ, List, Bool, true, false, cond, Option, Some, option_map, refl, ap, ◌∙◌}
use Rattle.std.specs.Str.{bytes_eq}
use Rattle.std.specs.Option.{option_or}
use Rattle.term_names.specs.Entries.{EntriesView, lookup, Puts}
use Rattle.term_names.specs.Known.{own_entry, base_entry, PutsKnown}
use Rattle.term_names.specs.declared.entries.Entry.{Entry}
use Rattle.term_names.specs.declared.names.KnownEntry.{KnownEntry}

pub Puts-known : (b o n : EntriesView) (name : List ℕ) (entry : Entry) → Puts o.names name entry n.names → PutsKnown (record { base = b; own = o }) name (own_entry entry) (record { base = b; own = n })
Puts-known b o n name entry puts other =
    ap (known (lookup b.names other)) (puts other) ∙ go (bytes_eq other name)
  where
    known : Option Entry → Option Entry → Option KnownEntry
    known base own = option_or (option_map own_entry own) (option_map base_entry base)

    go : (t : Bool) → known (lookup b.names other) (cond t (Some entry) (lookup o.names other)) ≡ cond t (Some (own_entry entry)) (known (lookup b.names other) (lookup o.names other))
    go true = refl
    go false = refl
