-- Names that get numbers and entries, and what stays.
use Rattle.std.proofs.Common.{◌≡◌, inl, inr, ℕ, zero, suc, ◌≤◌, ◌<◌, ◌+◌, List, [], ◌∷◌, ◌++◌, length, reverse, set, slice_get, Option, Some, option_map, IsSome, refl, sym, ◌∙◌, ap, subst, arith}
use Rattle.std.specs.Option.{option_or}
use Rattle.std.proofs.lemmas.List.{length_push, length-reverse, reverse-append}
use Rattle.std.proofs.lemmas.Option.{slice_get_within, get_or_from_slice_get}
use Rattle.term_names.specs.Entries.{lookup, Puts, IsThere}
use Rattle.term_names.specs.EntryTables.{entries_view, AreThere, IsInStep}
use Rattle.term_names.specs.Held.{scoped, AreHeld, IsHeldLinked}
use Rattle.term_names.specs.Known.{KnownView, own_entry, base_entry, IsKnownThere}
use Rattle.term_names.specs.NameNumbers.{IsNumbered}
use Rattle.term_names.specs.Scope.{Scoped, bound_of}
use Rattle.term_names.specs.NameTable.{NameTableView, GetsNumber, GetsEntry, entries_of}
use Rattle.term_expansion.specs.declared.values.Bound.{Bound}
use Rattle.term_names.specs.declared.entries.Entry.{Entry}
use Rattle.term_names.specs.declared.entries.Entry.TheVariants.{Function, Reserved, Macro, Named}
use Rattle.term_names.specs.declared.entries.Macro as macro
use Rattle.term_names.specs.declared.entries.Named as named
use Rattle.term_names.specs.declared.names.Held.{Held}
use Rattle.term_names.specs.declared.names.Meant.{Meant}
use Rattle.term_names.proofs.HeldVariables.{IsLinked-numbered, IsLinked-push, scoped-numbered, scoped-more}
use Rattle.term_names.proofs.NameEntries.{AreThere-Puts, AreTableNumbers-more}

is_there : {X : Type 0} (xs : List X) (n : ℕ) → n < length xs → IsSome (slice_get xs n)
is_there [] n h = absurd (omega arith)
is_there (x ∷ xs) zero h = refl
is_there (x ∷ xs) (suc n) h = is_there xs n (omega arith)

pub as_numbered : (old new : NameTableView) (name : List ℕ) (k : ℕ) → GetsNumber old new name k → IsNumbered old.names new.names old.innermost new.innermost name k
as_numbered old new name k h = record {
  number = h.number;
  others = elim h.others [
    | inl e ↦ inl (ap (λ (t : NameTableView). t.names) e, ap (λ (t : NameTableView). t.innermost) e)
    | inr e ↦ inr (ap (λ (t : NameTableView). t.names) e, ap (λ (t : NameTableView). t.innermost) e)
  ];
}

more_numbered : (old new : NameTableView) (name : List ℕ) (k : ℕ) → GetsNumber old new name k → length old.names ≤ length new.names
more_numbered old new name k h = elim h.others [
  | inl e ↦ (let same = ap (λ (t : NameTableView). length t.names) e in omega (arith, same))
  | inr e ↦ (let same = ap (λ (t : NameTableView). length t.names) e in omega (arith, same, length_push old.names name))
]

module _ (old new : NameTableView) (name : List ℕ) (entry : Entry) (k : ℕ) (h : GetsEntry old new name entry k) where
  pub linked_put : (held : List Held) → IsHeldLinked old.names old.innermost held → IsHeldLinked new.names new.innermost held
  linked_put held l =
      subst (λ (t : NameTableView). IsHeldLinked t.names t.innermost held) (sym h.entered)
      (IsLinked-numbered _ _ _ _ held name k (as_numbered old h.numbered name k h.number) l)

  pub scoped_put : (held : List Held) → AreHeld (length old.names) held → scoped new.names held ≡ scoped old.names held
  scoped_put held are =
      ap (λ (t : NameTableView). scoped t.names held) h.entered
      ∙ elim h.number.others [
        | inl e ↦ ap (λ (t : NameTableView). scoped t.names held) e
        | inr e ↦ ap (λ (t : NameTableView). scoped t.names held) e ∙ scoped-more old.names name held are
      ]

  same_count : length new.names ≡ length h.numbered.names
  same_count = ap (λ (t : NameTableView). length t.names) h.entered

  pub number_put : k < length new.names
  number_put = let within = slice_get_within h.numbered.names k name h.number.number in omega (arith, within, same_count)

  more_put : length old.names ≤ length new.names
  more_put = let more = more_numbered old h.numbered name k h.number in omega (arith, more, same_count)

  -- what entries are those of stays there
  pub in_step_put : (macros more_macros : List macro.Macro) (named more_named : List named.Named) (given : List (ℕ × ℕ)) → Puts (entries_of old) name entry (entries_of new) → length macros ≤ length more_macros → length named ≤ length more_named
      → IsThere (entries_view new more_macros more_named) entry → IsInStep old macros named given → IsInStep new more_macros more_named given
  in_step_put macros more_macros named more_named given puts m n there step = record {
    there = AreThere-Puts (entries_view old macros named) (entries_view new more_macros more_named) name entry m n step.there puts there;
    numbers = AreTableNumbers-more given _ _ more_put step.numbers;
  }

-- what is an entry of its own is there
pub own_there : (k : KnownView) (e : Entry) → IsThere k.own e → IsKnownThere k (own_entry e)
own_there k (Function leaf) h = tt
own_there k Reserved h = tt
own_there k (Macro n) h = is_there k.own.macros n h
own_there k (Named n) h = is_there k.own.named n h

-- and what is one of those that a reader starts from
pub base_there : (k : KnownView) (e : Entry) → IsThere k.base e → IsKnownThere k (base_entry e)
base_there k (Function leaf) h = tt
base_there k Reserved h = tt
base_there k (Macro n) h = is_there k.base.macros n h
base_there k (Named n) h = is_there k.base.named n h

-- a variable is put in scope
module _ (old numbered new : NameTableView) (name : List ℕ) (k n outer : ℕ) (bound : Bound) (items more : List Held)
    (gets : GetsNumber old numbered name k) (is : new ≡ record numbered { innermost = set numbered.innermost k n }) (read : slice_get numbered.innermost k ≡ Some outer)
    (pushed : more ≡ items ++ record { bound = bound; name = k; outer = outer } ∷ []) (count : n ≡ length more)
    (linked : IsHeldLinked old.names old.innermost (reverse items))
  where
    abbrev held : Held
    held = record { bound = bound; name = k; outer = outer }

    reversed : reverse more ≡ held ∷ reverse items
    reversed = ap reverse pushed ∙ reverse-append items (held ∷ [])

    pub linked_push : IsHeldLinked new.names new.innermost (reverse more)
    linked_push =
        let within : k < length numbered.names = slice_get_within numbered.names k name gets.number in
        let stays = IsLinked-numbered _ _ _ _ (reverse items) name k (as_numbered old numbered name k gets) linked in
        let many : n ≡ length (reverse items) + 1 = count ∙ sym (length-reverse more) ∙ ap length reversed ∙ add-one-length in
        subst (λ (t : NameTableView). IsHeldLinked t.names t.innermost (reverse more)) (sym is)
        (subst (IsHeldLinked numbered.names (set numbered.innermost k n)) (sym reversed)
        (subst (λ m. IsHeldLinked numbered.names (set numbered.innermost k m) (held ∷ reverse items)) (sym many)
        (IsLinked-push numbered.names numbered.innermost (reverse items) held stays within (sym (get_or_from_slice_get numbered.innermost k outer 0 read)))))
      where
        add-one-length : length (held ∷ reverse items) ≡ length (reverse items) + 1
        add-one-length = omega arith

    pub scoped_push : scoped new.names (reverse more) ≡ record { name = name; bound = bound } ∷ scoped old.names (reverse items)
    scoped_push =
        ap (λ (t : NameTableView). scoped t.names (reverse more)) is
        ∙ ap (scoped numbered.names) reversed
        ∙ scoped-numbered _ _ _ _ (reverse items) name k held (as_numbered old numbered name k gets) refl linked.outer

    pub in_step_push : (macros : List macro.Macro) (named : List named.Named) (given : List (ℕ × ℕ)) → entries_of numbered ≡ entries_of old → IsInStep old macros named given → IsInStep new macros named given
    in_step_push macros named given same step =
        subst (λ (t : NameTableView). IsInStep t macros named given) (sym is) (record {
          there = subst (λ es. AreThere (record { names = es; macros = macros; named = named })) (sym same) step.there;
          numbers = AreTableNumbers-more given _ _ (more_numbered old numbered name k gets) step.numbers;
        })

-- what a name means by its variable and its entry
pub own_meant_parts : (scope : List Scoped) (names : List (List ℕ × Entry)) (name : List ℕ) (a : Option Bound) (b : Option Entry) → bound_of scope name ≡ a → lookup names name ≡ b → option_or (option_map Meant.Variable (bound_of scope name)) (option_map (λ e. Meant.Entry (own_entry e)) (lookup names name)) ≡ option_or (option_map Meant.Variable a) (option_map (λ e. Meant.Entry (own_entry e)) b)
own_meant_parts scope names name a b p q = λ i. option_or (option_map Meant.Variable (p i)) (option_map (λ e. Meant.Entry (own_entry e)) (q i))
