-- Names in one text.
use Rattle.std.proofs.Common.{◌≡◌, inl, inr, ℕ, ◌+◌, ◌-◌, ◌≤◌, suc, List, [], ◌∷◌, ◌++◌, length, take, drop, slice_get, option_map, Some, refl, sym, ◌∙◌, ap, subst, arith}
use Rattle.std.specs.List.{slice_range}
use Rattle.std.proofs.lemmas.List.{drop-append-le, take-append-le, take_all, length-drop, length-append, map-append}
use Rattle.std.proofs.lemmas.Option.{slice_get-map}
use Rattle.std.proofs.Math.Seq.{drop-append_seam}
use Rattle.name_set.specs.declared.names.Span.{Span}
use Rattle.name_set.specs.Keys.{names_of_spans, AreWithin}
use Rattle.name_set.proofs.Positions.{slice_get-push_cases}

-- a name stays where the text grows
range_stays : (text more : List ℕ) (s e : ℕ) → s ≤ e → e ≤ length text → slice_range (text ++ more) s e ≡ slice_range text s e
range_stays text more s e up within =
    let inside : e - s ≤ length (drop s text) = omega (arith, length-drop s text) in
    ap (take (e - s)) (drop-append-le s text more (omega arith)) ∙ take-append-le (e - s) (drop s text) more inside

-- what the text grows by
range_new : (text name : List ℕ) (e : ℕ) → e ≡ length text + length name → slice_range (text ++ name) (length text) e ≡ name
range_new text name e at = ap (take (e - length text)) (drop-append_seam text name) ∙ take_all (e - length text) name (omega arith)

names_stay : (text more : List ℕ) (spans : List Span) → AreWithin text spans → names_of_spans (text ++ more) spans ≡ names_of_spans text spans
names_stay text more [] within = refl
names_stay text more (s ∷ spans) within =
    let here = within 0 s refl in
    let first = range_stays text more s.start s.end here.0 here.1 in
    let rest = names_stay text more spans (λ k x e. within (suc k) x e) in
    cc

module _ (text name more : List ℕ) (spans more_spans : List Span) (s : Span)
    (grown : more ≡ text ++ name) (pushed : more_spans ≡ spans ++ s ∷ []) (start : s.start ≡ length text) (end : s.end ≡ length more) (within : AreWithin text spans) where
  length_grown : length more ≡ length text + length name
  length_grown = ap length grown ∙ length-append text name

  pub names_of_spans-new_name : names_of_spans more more_spans ≡ names_of_spans text spans ++ name ∷ []
  names_of_spans-new_name =
      ap (names_of_spans more) pushed ∙ map-append (λ (x : Span). slice_range more x.start x.end) spans (s ∷ [])
      ∙ ap (λ (t : List ℕ). names_of_spans t spans ++ slice_range t s.start s.end ∷ []) grown
      ∙ ap (λ (ns : List (List ℕ)). ns ++ slice_range (text ++ name) s.start s.end ∷ []) (names_stay text name spans within)
      ∙ ap (λ (k : ℕ). names_of_spans text spans ++ slice_range (text ++ name) k s.end ∷ []) start
      ∙ ap (λ (n : List ℕ). names_of_spans text spans ++ n ∷ []) (range_new text name s.end (end ∙ length_grown))

  pub AreWithin-new_name : AreWithin more more_spans
  AreWithin-new_name k x e = elim (slice_get-push_cases spans s k x (ap (λ (xs : List Span). slice_get xs k) (sym pushed) ∙ e)) [
    | inl h ↦ (let was = within k x h in let long = length_grown in (was.0, omega arith))
    | inr h ↦ last h.1
  ]
    where
      last : s ≡ x → (x.start ≤ x.end) × (x.end ≤ length more)
      last same = subst (λ (y : Span). (y.start ≤ y.end) × (y.end ≤ length more)) same (omega (arith, length_grown, start, end), omega (arith, end))

-- the name at a place
pub name_at : (text : List ℕ) (spans : List Span) (k : ℕ) (s : Span) → slice_get spans k ≡ Some s → slice_get (names_of_spans text spans) k ≡ Some (slice_range text s.start s.end)
name_at text spans k s e = slice_get-map (λ (x : Span). slice_range text x.start x.end) spans k ∙ ap (option_map (λ (x : Span). slice_range text x.start x.end)) e
