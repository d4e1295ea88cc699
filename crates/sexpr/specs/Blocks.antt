-- Private. What a block of bytes is that need no look one by one, and how far a text has been seen to have form.
use Rattle.std.specs.Prelude.{◌≡◌, ℕ, ◌+◌, ◌<◌, zero, suc, Bool, true, ◌&&◌, ◌||◌, ◌==◌, nat_le, if◌then◌else◌, List, drop, slice_index}
use Rattle.std.specs.Char.{is_ascii_digit}
use Rattle.std.specs.List.{prefix_len}
use Rattle.sexpr.specs.declared.brackets.OpenLists.{OpenLists}
use Rattle.sexpr.specs.Characters.{is_word_byte}
use Rattle.sexpr.specs.OpenSoFar.{IsOpenAfter}

-- a byte of a word that one of few comparisons tells: a letter, a digit or one of most marks
abbrev pub is_common : ℕ → Bool
is_common b =
    nat_le 45 b && nat_le b 58 || nat_le 60 b && nat_le b 90 || nat_le 97 b && nat_le b 122 || nat_le 42 b && nat_le b 43 || b == 95

-- a byte that begins or goes on with a word, a bracket, a space or a line feed
abbrev pub is_fine : ℕ → Bool
is_fine b = is_common b || b == 40 || b == 41 || b == 32 || b == 10

-- The byte at a place is fine, and one behind it that is a digit goes on with a word.
pub record IsFineAt (text : List ℕ) (place : ℕ) : Type 0 where
  pub fine : is_fine (slice_index text place) ≡ true
  pub joined : is_ascii_digit (slice_index text (place + 1)) ≡ true → is_common (slice_index text place) ≡ true

-- so are the n bytes from a place on
abbrev pub AreFine : List ℕ → ℕ → ℕ → Type 0
AreFine text at n = (k : ℕ) → k < n → IsFineAt text (at + k)

-- how often a byte stands among the n from a place on
abbrev pub count_of : ℕ → List ℕ → ℕ → ℕ → ℕ
count_of byte text at zero = 0
count_of byte text at (suc n) = count_of byte text at n + (if slice_index text (at + n) == byte then 1 else 0)

-- what is left of the word in which the place lies
abbrev pub rest_of_word : Bool → List ℕ → ℕ → ℕ
rest_of_word inside text place = if inside then prefix_len is_word_byte (drop place text) else 0

-- The text has form up to this place, where no token is cut, and so many lists are open there.
pub record IsFormedTo (text : List ℕ) (place depth : ℕ) : Type 0 where
  pub lists : OpenLists
  pub known : IsOpenAfter text text place lists
  pub is_depth : lists.depth ≡ depth

-- the same of a place that may lie in a word, which has form up to its end
abbrev pub IsFormedSoFar : List ℕ → ℕ → Bool → ℕ → Type 0
IsFormedSoFar text place inside depth = IsFormedTo text (place + rest_of_word inside text place) depth
