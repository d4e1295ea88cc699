-- The conditions of the builder's calls, as tests that compute.
use Rattle.std.proofs.Common.{◌≡◌, ◌≢◌, ◌<◌, ◌==◌, ℕ, zero, suc, Bool, true, false, ◌&&◌, ◌||◌, List, [], ◌∷◌, length, slice_index_or, Contains, refl, sym, subst, arith, if◌then◌else◌}
use Rattle.std.specs.List.{list_all, list_any}
use Rattle.std.specs.Str.{bytes_eq}
use Rattle.std.proofs.lemmas.Slice.Eq.{bytes_eq-Decides}
use Rattle.rule_model.specs.RuleNames.{IsSymbolName}

-- a byte that a symbol may have
abbrev pub is_plain : ℕ → Bool
is_plain b = if b == 124 then false else (if b == 92 then false else true)

plain_byte : (b : ℕ) → is_plain b ≡ true → (b ≢ 124) × (b ≢ 92)
plain_byte b h = ((λ e. no (subst (λ n. is_plain n ≡ true) e h)), (λ e. no_other (subst (λ n. is_plain n ≡ true) e h)))
  where
    no : is_plain 124 ≡ true → ⊥
    no e = cc

    no_other : is_plain 92 ≡ true → ⊥
    no_other e = cc

all_plain : (name : List ℕ) → list_all is_plain name ≡ true → (k d : ℕ) → k < length name → is_plain (slice_index_or name k d) ≡ true
all_plain [] h k d l = absurd (omega arith)
all_plain (b ∷ name) h zero d l = go (is_plain b) refl h
  where
    go : (t : Bool) → is_plain b ≡ t → (t && list_all is_plain name) ≡ true → is_plain b ≡ true
    go true e h = e
    go false e h = absurd (cc)
all_plain (b ∷ name) h (suc k) d l = all_plain name (go (is_plain b) h) k d (omega arith)
  where
    go : (t : Bool) → (t && list_all is_plain name) ≡ true → list_all is_plain name ≡ true
    go true h = h
    go false h = absurd (cc)

pub symbol : (name : List ℕ) → list_all is_plain name ≡ true → IsSymbolName name
symbol name h k d l = plain_byte (slice_index_or name k d) (all_plain name h k d l)

-- no name of the list is this one
pub lacks : (ids : List (List ℕ)) (id : List ℕ) → list_any (bytes_eq id) ids ≡ false → ¬ Contains ids id
lacks [] id h (k, l, e) = absurd (omega arith)
lacks (x ∷ ids) id h (zero, l, e) = other ((bytes_eq-Decides id x).1 (sym e)) h
  where
    other : bytes_eq id x ≡ true → (bytes_eq id x || list_any (bytes_eq id) ids) ≡ false → ⊥
    other same none = no (subst (λ b. (b || list_any (bytes_eq id) ids) ≡ false) same none)
      where
        no : ◌≡◌ {A = Bool} true false → ⊥
        no e = cc
lacks (x ∷ ids) id h (suc k, l, e) = lacks ids id (rest (bytes_eq id x) h) (k, omega arith, e)
  where
    rest : (b : Bool) → (b || list_any (bytes_eq id) ids) ≡ false → list_any (bytes_eq id) ids ≡ false
    rest true h = absurd (cc)
    rest false h = h
