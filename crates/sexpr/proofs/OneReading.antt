-- A text is read in one way only.
use Rattle.std.proofs.Common.{◌≡◌, ℕ, Some, Ok, List, [], ◌∷◌, ◌++◌, refl, sym, ◌∙◌, subst}
use Rattle.sexpr.specs.declared.lexing.Token.{Token}
use Rattle.sexpr.specs.Tokens.{Read, next_token, ReadsAs}

-- what is read before a token of a read
pub reads_before : (source : List ℕ) (at : ℕ) (xs : List Token) (t : Token) (ys : List Token) (last : Read)
    → ReadsAs source at (xs ++ t ∷ ys) last → ReadsAs source at xs (Ok (Some t))
reads_before source at [] t ys last read = read.0
reads_before source at (x ∷ xs) t ys last read = (read.0, reads_before source x.end xs t ys last read.1)

-- one token more
pub reads_more : (source : List ℕ) (at : ℕ) (xs : List Token) (t : Token) (last : Read)
    → ReadsAs source at xs (Ok (Some t)) → next_token source t.end ≡ last → ReadsAs source at (xs ++ t ∷ []) last
reads_more source at [] t last read next = (read, next)
reads_more source at (x ∷ xs) t last read next = (read.0, reads_more source x.end xs t last read.1 next)

-- the tokens xs are the first of ys, and what comes after them is the next of ys
pub record IsFrontOf (xs : List Token) (last : Read) (ys : List Token) : Type 0 where
  pub next : Token
  pub rest : List Token
  pub split : ys ≡ xs ++ next ∷ rest
  pub last_is : last ≡ Ok (Some next)

-- of two reads of a text, one is a prefix of the other
pub data Compared (xs : List Token) (l : Read) (ys : List Token) (m : Read) : Type 0 where
  same : xs ≡ ys → l ≡ m → Compared xs l ys m
  shorter : IsFrontOf xs l ys → Compared xs l ys m
  longer : IsFrontOf ys m xs → Compared xs l ys m

front_after : (x y : Token) (xs : List Token) (l : Read) (ys : List Token) → x ≡ y → IsFrontOf xs l ys → IsFrontOf (x ∷ xs) l (y ∷ ys)
front_after x y xs l ys e front = record { next = front.next; rest = front.rest; split = let f = front.split in cc; last_is = front.last_is }

compared_after : (x y : Token) (xs : List Token) (l : Read) (ys : List Token) (m : Read) → x ≡ y → Compared xs l ys m → Compared (x ∷ xs) l (y ∷ ys) m
compared_after x y xs l ys m e (same tokens last) = same (cc) last
compared_after x y xs l ys m e (shorter front) = shorter (front_after x y xs l ys e front)
compared_after x y xs l ys m e (longer front) = longer (front_after y x ys m xs (sym e) front)

one_token : (read : Read) (x y : Token) → read ≡ Ok (Some x) → read ≡ Ok (Some y) → x ≡ y
one_token read x y h k = cc

pub compared : (source : List ℕ) (at : ℕ) (xs : List Token) (l : Read) (ys : List Token) (m : Read) → ReadsAs source at xs l → ReadsAs source at ys m → Compared xs l ys m
compared source at [] l [] m h k = same refl (sym h ∙ k)
compared source at [] l (y ∷ ys) m h k = shorter (record { next = y; rest = ys; split = refl; last_is = sym h ∙ k.0 })
compared source at (x ∷ xs) l [] m h k = longer (record { next = x; rest = xs; split = refl; last_is = sym k ∙ h.0 })
compared source at (x ∷ xs) l (y ∷ ys) m h k =
    let e = one_token (next_token source at) x y h.0 k.0 in
    compared_after x y xs l ys m e (compared source y.end xs l ys m (subst (λ t. ReadsAs source t.end xs l) e h.1) k.1)

-- what comes after the last token: the end or a fault
abbrev pub IsLast : Read → Type 0
IsLast last = (t : Token) → last ≡ Ok (Some t) → ⊥

pub record SameReads (xs : List Token) (l : Read) (ys : List Token) (m : Read) : Type 0 where
  pub tokens : xs ≡ ys
  pub last : l ≡ m

-- two whole reads are one
pub same_reads : (source : List ℕ) (xs : List Token) (l : Read) (ys : List Token) (m : Read) → ReadsAs source 0 xs l → ReadsAs source 0 ys m → IsLast l → IsLast m → SameReads xs l ys m
same_reads source xs l ys m h k last_l last_m = go (compared source 0 xs l ys m h k)
  where
    go : Compared xs l ys m → SameReads xs l ys m
    go (same tokens last) = record { tokens = tokens; last = last }
    go (shorter front) = absurd (last_l front.next front.last_is)
    go (longer front) = absurd (last_m front.next front.last_is)
