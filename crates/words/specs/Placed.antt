-- Parts of a text with their places.
use Rattle.std.specs.Prelude.{ℕ, ◌+◌, List, [], ◌∷◌, Some, None, Option, length, drop}
use Rattle.words.specs.declared.part.Part.{Part}
use Rattle.words.specs.declared.parts.Parts.{Parts}
use Rattle.words.specs.Parts.{parts}

-- the bytes of a part
abbrev pub bytes_of : Part → List ℕ
bytes_of part = drop part.at part.text.now

-- a part's place and its bytes
abbrev pub shown : Part → ℕ × List ℕ
shown part = (part.at, bytes_of part)

-- the parts, each with its place: the first starts at this byte, and one byte lies between each and the next
abbrev pub placed : ℕ → List (List ℕ) → List (ℕ × List ℕ)
placed at [] = []
placed at (w ∷ ws) = (at, w) ∷ placed (at + length w + 1) ws

-- the parts of what is left
abbrev pub left_in : ℕ → Option Part → List (ℕ × List ℕ)
left_in stop None = []
left_in stop (Some rest) = placed rest.at (parts stop (bytes_of rest))

abbrev pub left : Parts → List (ℕ × List ℕ)
left s = left_in s.stop s.rest
