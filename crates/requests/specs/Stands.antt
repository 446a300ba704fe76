-- What the unfinished line of an input stands for, and what a chunk of the input adds. Assumes nothing.
use Rattle.std.specs.Prelude.{◌≡◌, ℕ, List, [], ◌∷◌, ◌++◌, take}
use Rattle.requests.specs.declared.lines.Lines.{Lines}
use Rattle.text.specs.Pieces.{pieces}
use Rattle.requests.specs.Input.{unended, replies}

-- pending are the bytes that came since the last newline. The first 1,025 of them are held, and these decide the reply,
-- so a line that has become too long stands for every line that begins with them
pub record Stands (lines : Lines) (pending : List ℕ) : Type 0 where
  pub unbroken : pieces 10 pending ≡ pending ∷ []
  pub held : take lines.len lines.held ≡ take 1025 pending

-- a chunk was taken in: the lines that it ended are replied to, and the rest is pending
abbrev pub Fed : Lines → List ℕ → List ℕ → Lines → List ℕ → Type 0
Fed lines out chunk lines' out' =
    (pending : List ℕ) → Stands lines pending → (out' ≡ out ++ replies (pending ++ chunk)) × Stands lines' (unended (pending ++ chunk))

-- for want of memory only the first n bytes of a chunk were taken in
abbrev pub FedSome : Lines → List ℕ → List ℕ → Lines → List ℕ → Type 0
FedSome lines out chunk lines' out' = (n : ℕ) × Fed lines out (take n chunk) lines' out'

-- the pending bytes got their reply, and nothing is pending
abbrev pub Replied : (List ℕ → List ℕ) → Lines → List ℕ → Lines → List ℕ → Type 0
Replied said lines out lines' out' =
    (pending : List ℕ) → Stands lines pending → (out' ≡ out ++ said pending) × Stands lines' []

-- nothing was done
abbrev pub Same : Lines → List ℕ → Lines → List ℕ → Type 0
Same lines out lines' out' = (out' ≡ out) × (lines' ≡ lines)
