-- Private. Words of one length.
use Rattle.std.specs.Prelude.{ℕ, List, length, filter, nat_eq}

-- those of the words that have n bytes
abbrev pub of_length : ℕ → List (List ℕ) → List (List ℕ)
of_length n words = filter (λ word. nat_eq (length word) n) words
