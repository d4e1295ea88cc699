-- One turn of each loop that makes rows of rows.
use Rattle.std.proofs.Common.{◌≡◌, ◌⊎◌, inl, inr, ℕ, ◌+◌, ◌<◌, ℤ, pos, ◌<ℤ◌, List, length, get_or, take, Contains, subst, arith}
use Rattle.std.proofs.lemmas.List.{take_more}
use Rattle.std.proofs.lemmas.List.Elements.{Contains-push_cases}
use Rattle.lia_filler.specs.declared.row.Row.{Row}
use Rattle.lia_filler.specs.Elimination.{ArePairsOf, AreMadeOf, in_column, paired}

taken : {X : Type 0} (xs : List X) (i : ℕ) (d x : X) → i < length xs → Contains (take (i + 1) xs) x → Contains (take i xs) x ⊎ (get_or xs i d ≡ x)
taken xs i d x h k = Contains-push_cases (take i xs) (get_or xs i d) x (subst (λ (ys : List _). Contains ys x) (take_more xs i d h) k)

pub pairs_more : (rows : List Row) (k : ℕ) (x : List ℤ) (lows : List (List ℤ)) (i : ℕ) (d : List ℤ) (P Q : List ℤ → Type 0) → i < length lows
    → ((z : List ℤ) → P z → Q z) → ArePairsOf rows k x (take i lows) P
    → (in_column rows k (get_or lows i d) <ℤ pos 0 → Q (paired rows k x (get_or lows i d))) → ArePairsOf rows k x (take (i + 1) lows) Q
pairs_more rows k x lows i d P Q h kept before here = record { pairs = λ y there low. go y low (taken lows i d y h there) }
  where
    go : (y : List ℤ) → in_column rows k y <ℤ pos 0 → Contains (take i lows) y ⊎ (get_or lows i d ≡ y) → Q (paired rows k x y)
    go y low (inl there) = kept (paired rows k x y) (before.pairs y there low)
    go y low (inr e) = subst (λ (z : List ℤ). in_column rows k z <ℤ pos 0 → Q (paired rows k x z)) e here low

pub pairs_kept : (rows : List Row) (k : ℕ) (x : List ℤ) (lows : List (List ℤ)) (P Q : List ℤ → Type 0) → ((z : List ℤ) → P z → Q z)
    → ArePairsOf rows k x lows P → ArePairsOf rows k x lows Q
pairs_kept rows k x lows P Q kept before = record { pairs = λ y there low. kept (paired rows k x y) (before.pairs y there low) }

pub no_pairs : (rows : List Row) (k : ℕ) (x : List ℤ) (lows : List (List ℤ)) (P : List ℤ → Type 0) → ArePairsOf rows k x (take 0 lows) P
no_pairs rows k x lows P = record { pairs = λ y there low. absurd (omega (arith, there.1)) }

pub made_more : (rows : List Row) (k : ℕ) (highs lows : List (List ℤ)) (i : ℕ) (d : List ℤ) (P Q : List ℤ → Type 0) → i < length highs
    → ((z : List ℤ) → P z → Q z) → AreMadeOf rows k (take i highs) lows P
    → (pos 0 <ℤ in_column rows k (get_or highs i d) → ArePairsOf rows k (get_or highs i d) lows Q)
    → (in_column rows k (get_or highs i d) ≡ pos 0 → Q (get_or highs i d)) → AreMadeOf rows k (take (i + 1) highs) lows Q
made_more rows k highs lows i d P Q h kept before pairs level =
    record { pairs = λ x there high. paired_at x high (taken highs i d x h there); levels = λ x there e. level_at x e (taken highs i d x h there) }
  where
    paired_at : (x : List ℤ) → pos 0 <ℤ in_column rows k x → Contains (take i highs) x ⊎ (get_or highs i d ≡ x) → ArePairsOf rows k x lows Q
    paired_at x high (inl there) = pairs_kept rows k x lows P Q kept (before.pairs x there high)
    paired_at x high (inr e) = subst (λ (z : List ℤ). pos 0 <ℤ in_column rows k z → ArePairsOf rows k z lows Q) e pairs high

    level_at : (x : List ℤ) → in_column rows k x ≡ pos 0 → Contains (take i highs) x ⊎ (get_or highs i d ≡ x) → Q x
    level_at x f (inl there) = kept x (before.levels x there f)
    level_at x f (inr e) = subst (λ (z : List ℤ). in_column rows k z ≡ pos 0 → Q z) e level f

pub none_made : (rows : List Row) (k : ℕ) (highs lows : List (List ℤ)) (P : List ℤ → Type 0) → AreMadeOf rows k (take 0 highs) lows P
none_made rows k highs lows P =
    record { pairs = λ x there high. absurd (omega (arith, there.1)); levels = λ x there e. absurd (omega (arith, there.1)) }
