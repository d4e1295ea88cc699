-- The command of a top item, by its word.
use Rattle.std.proofs.Common.{◌≡◌, ℕ, ◌∙◌, Bool, true, false, List, [], ◌∷◌, Option, Some, None, Result, Err, refl, sym, ap}
use Rattle.std.specs.Prelude.{if◌then◌else◌, codes, bytes_eq}
use Rattle.sexpr.specs.declared.causes.Cause.TheVariants.{BadCommand}
use Rattle.sexpr.specs.declared.causes.Refusal.{Refusal}
use Rattle.sexpr.specs.Words.{is_symbol}
use Rattle.sexpr.specs.Items.{Item, word, quoted, string, list, Items, no_items, item, place_of}
use Rattle.smtlib_reader.specs.declared.command_words.CommandWord.{CommandWord}
use Rattle.problem_text.specs.Words.{is_among, left_out_commands}
use Rattle.text_items.specs.ItemShapes.{items_of}
use Rattle.problem_text.specs.Commands.{ScriptCommand as Shape, refused, script_command_named, headed_script_command, script_command_of}
use Rattle.smtlib_reader.specs.CommandShapes.{script_word_named, script_command_so}
use Rattle.text_items.specs.Stepping.{head_word}
use Rattle.term_model.proofs.Basics.{choice}

pub by_word : (checked : Bool) (place word_place : ℕ) (name : List ℕ) (items : Items)
    → script_command_named checked place word_place name items ≡ script_command_so (script_word_named name) checked place word_place items
by_word checked place word_place name items =
    let f : CommandWord → Result Shape Refusal = λ w. script_command_so w checked place word_place items in
    choice f (bytes_eq name (codes "assert")) _ _ _ _ refl
    (choice f (bytes_eq name (codes "declare-fun")) _ _ _ _ refl
    (choice f (bytes_eq name (codes "declare-const")) _ _ _ _ refl
    (choice f (bytes_eq name (codes "define-fun")) _ _ _ _ refl
    (choice f (bytes_eq name (codes "declare-sort")) _ _ _ _ refl
    (choice f (bytes_eq name (codes "set-logic")) _ _ _ _ refl
    (choice f (is_among (codes "set-info" ∷ codes "set-option" ∷ []) name) _ _ _ _ refl
    (choice f (bytes_eq name (codes "check-sat")) _ _ _ _ refl
    (choice f (is_among (codes "get-proof" ∷ codes "get-unsat-core" ∷ []) name) _ _ _ _ refl
    (choice f (bytes_eq name (codes "exit")) _ _ _ _ refl
    (choice f (is_among left_out_commands name) _ _ _ _ refl refl))))))))))

-- the command by its head
abbrev headed : Bool → ℕ → ℕ → Option (List ℕ) → Items → Result Shape Refusal
headed checked place word_place (Some name) items = script_command_named checked place word_place name items
headed checked place word_place None items = refused BadCommand word_place

by_head : (checked : Bool) (place : ℕ) (head : Item) (items : Items) → headed_script_command checked place head items ≡ headed checked place (place_of head) (head_word head) items
by_head checked place (word p s) items = go (is_symbol s)
  where
    go : (b : Bool) → (if b then script_command_named checked place p s items else refused BadCommand p) ≡ headed checked place p (if b then Some s else None) items
    go true = refl
    go false = refl
by_head checked place (quoted p s) items = refl
by_head checked place (string p s) items = refl
by_head checked place (list p inside) items = refl

-- the command by what stands in the item
abbrev inside : Bool → ℕ → Items → Result Shape Refusal
inside checked place no_items = refused BadCommand place
inside checked place (item head items) = headed_script_command checked place head items

by_items : (checked : Bool) (i : Item) → script_command_of checked i ≡ inside checked (place_of i) (items_of i)
unfolding script_command_of
by_items checked (word p s) = refl
by_items checked (quoted p s) = refl
by_items checked (string p s) = refl
by_items checked (list p no_items) = refl
by_items checked (list p (item head items)) = refl

pub lacks_word : (checked : Bool) (i : Item) → items_of i ≡ no_items → (p : ℕ) → p ≡ place_of i → (r : Refusal) → r ≡ record { cause = BadCommand; at = p } → script_command_of checked i ≡ Err r
lacks_word checked i e p start r is =
    by_items checked i ∙ ap (inside checked (place_of i)) e ∙ ap (λ q. refused {A = Shape} BadCommand q) (sym start) ∙ ap Err (sym is)

has_head : (checked : Bool) (i head : Item) (items : Items) → items_of i ≡ item head items → (name : Option (List ℕ)) → name ≡ head_word head
    → script_command_of checked i ≡ headed checked (place_of i) (place_of head) name items
has_head checked i head items e name is =
    by_items checked i ∙ ap (inside checked (place_of i)) e ∙ by_head checked (place_of i) head items
    ∙ ap (λ o. headed checked (place_of i) (place_of head) o items) (sym is)

pub with_word : (checked : Bool) (i head : Item) (items : Items) → items_of i ≡ item head items → (name : List ℕ) → Some name ≡ head_word head → (w : CommandWord) → w ≡ script_word_named name
    → (p q : ℕ) → p ≡ place_of i → q ≡ place_of head → script_command_of checked i ≡ script_command_so w checked p q items
with_word checked i head items e name is w named p q start word_start =
    has_head checked i head items e (Some name) is ∙ by_word checked (place_of i) (place_of head) name items
    ∙ ap (λ v. script_command_so v checked (place_of i) (place_of head) items) (sym named)
    ∙ ap (λ r. script_command_so w checked r (place_of head) items) (sym start) ∙ ap (λ r. script_command_so w checked p r items) (sym word_start)

pub without_word : (checked : Bool) (i head : Item) (items : Items) → items_of i ≡ item head items → None ≡ head_word head → (q : ℕ) → q ≡ place_of head → script_command_of checked i ≡ refused BadCommand q
without_word checked i head items e is q word_start = has_head checked i head items e None is ∙ ap (λ r. refused {A = Shape} BadCommand r) (sym word_start)

pub ruleset command_read = (lacks_word, with_word, without_word)
