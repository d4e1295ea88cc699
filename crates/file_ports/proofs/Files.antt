-- The files that a folder in memory was handed, one by one.
use Rattle.std.proofs.Common.{◌≡◌, ◌∙◌, sym, ap, refl, ℕ, ◌+◌, ◌<◌, List, [], ◌∷◌, length, drop, get_or, String, Vec, string_bytes, add-one, Some, true, false}
use Rattle.std.proofs.Math.Seq.{drop-cons}
use Rattle.std.proofs.lemmas.List.{get_or-map, length-map}
use Rattle.std.specs.declared.alloc.Global.{Global}
use Rattle.std.specs.Str.{bytes_eq}
use Rattle.file_ports.specs.InMemory.{files_of, bytes_at}
use Rattle.file_ports.specs.Opened.{bytes_of}

abbrev path_and_bytes : String Global × Vec ℕ Global → List ℕ × List ℕ
path_and_bytes file = (string_bytes file.0, file.1.items)

-- the file at a place
file_at : (xs : List (String Global × Vec ℕ Global)) (k : ℕ) (d : String Global × Vec ℕ Global) (e : List ℕ × List ℕ) → k < length xs
    → get_or (files_of xs) k e ≡ path_and_bytes (get_or xs k d)
file_at xs k d e h = get_or-map path_and_bytes xs k d e h

-- bytes that are the file at a place
pub bytes_of-file : (xs : List (String Global × Vec ℕ Global)) (k : ℕ) (d : String Global × Vec ℕ Global) (bytes : List ℕ) → k < length (files_of xs)
    → bytes ≡ (get_or xs k d).1.items → bytes ≡ bytes_of (files_of xs) k
bytes_of-file xs k d bytes h is = is ∙ sym (ap (λ (file : List ℕ × List ℕ). file.1) (file_at xs k d ([], []) (simp length-map at h)))

-- the files from one place on, beginning with the file there
files_from : (xs : List (String Global × Vec ℕ Global)) (k : ℕ) (file : String Global × Vec ℕ Global) → k < length xs → file ≡ get_or xs k file
    → drop k (files_of xs) ≡ path_and_bytes file ∷ drop (k + 1) (files_of xs)
files_from xs k file h is =
    let first : get_or (files_of xs) k ([], []) ≡ path_and_bytes file = file_at xs k file ([], []) h ∙ ap path_and_bytes (sym is) in
    let within : k < length (files_of xs) = rw (length-map xs path_and_bytes) h in
    rw (add-one, drop-cons (files_of xs) k ([], []), first) refl

-- the file at a place has the path
pub bytes_at-found : (xs : List (String Global × Vec ℕ Global)) (path : List ℕ) (k : ℕ) (file : String Global × Vec ℕ Global) → k < length xs → file ≡ get_or xs k file
    → bytes_eq (string_bytes file.0) path ≡ true → bytes_at (drop k (files_of xs)) path ≡ Some (bytes_of (files_of xs) k)
bytes_at-found xs path k file h is same =
    let first : get_or (files_of xs) k ([], []) ≡ path_and_bytes file = file_at xs k file ([], []) h ∙ ap path_and_bytes (sym is) in
    rw (files_from xs k file h is, same) (ap (λ (file : List ℕ × List ℕ). Some file.1) (sym first))

-- the file at a place has another path
pub bytes_at-past : (xs : List (String Global × Vec ℕ Global)) (path : List ℕ) (k : ℕ) (file : String Global × Vec ℕ Global) → k < length xs → file ≡ get_or xs k file
    → bytes_eq (string_bytes file.0) path ≡ false → bytes_at (drop k (files_of xs)) path ≡ bytes_at (drop (k + 1) (files_of xs)) path
bytes_at-past xs path k file h is other = rw (files_from xs k file h is, other) refl
