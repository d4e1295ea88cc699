-- Public. What fillers of holes are asked and reply.
use Rattle.std.specs.Prelude.{ℕ, List, [], ◌∷◌, ◌++◌, Option, Some, None, Vec, map, slice_index_or}
use Rattle.std.specs.declared.alloc.Global.{Global}

-- a question and the reply to it
pub record Exchange : Type 0 where
  pub question : List ℕ
  pub reply : Option (List ℕ)

-- the bytes of a reply
abbrev pub reply_bytes : Option (Vec ℕ Global) → Option (List ℕ)
reply_bytes None = None
reply_bytes (Some bytes) = Some bytes.items

-- the book with an exchange more at its end
abbrev pub with_exchange : List Exchange → List ℕ → Option (List ℕ) → List Exchange
with_exchange book question reply = book ++ record { question = question; reply = reply } ∷ []

-- A filler with a script: how many questions it may still be asked, the replies that were handed in, and its book.
pub record ScriptState : Type 0 where
  pub left : ℕ
  pub replies : List (Option (List ℕ))
  pub book : List Exchange

-- the reply of a place, and none past the end
abbrev pub reply_at : List (Option (List ℕ)) → ℕ → Option (List ℕ)
reply_at replies k = slice_index_or replies k None

-- the replies as they are handed in
abbrev pub replies_of : List (Option (Vec ℕ Global)) → List (Option (List ℕ))
replies_of replies = map reply_bytes replies
