-- What a file that is read piece by piece keeps.
use Rattle.std.proofs.Common.{◌≡◌, ℕ, ◌<◌, List, ◌++◌, length, Option, Some, None, sym, ap, ◌∙◌, arith, append_assoc, length-append}
use Rattle.std.specs.Io.KnownBytes.{Consumes}
use Rattle.std.specs.FinMap as map
use Rattle.dwc_cli.specs.RunStatus.{Files, most_bytes}
use Rattle.dwc_cli.specs.Edge.{IsLongFile}

-- where the files are told, the file at a path is what was read and then what is left
abbrev pub IsFrontOf : Option Files → Option (List ℕ) → List ℕ → List ℕ → Type 0
IsFrontOf None left path bytes = Unit {0}
IsFrontOf (Some told) None path bytes = ⊥
IsFrontOf (Some told) (Some rest) path bytes = map.get told path ≡ Some (bytes ++ rest)

-- a piece goes from what is left to what was read
pub IsFrontOf-read : (files : Option Files) (old new : Option (List ℕ)) (path bytes piece : List ℕ) → IsFrontOf files old path bytes → Consumes old new piece → IsFrontOf files new path (bytes ++ piece)
IsFrontOf-read None old new path bytes piece front took = tt
IsFrontOf-read (Some told) None new path bytes piece front took = absurd front
IsFrontOf-read (Some told) (Some xs) None path bytes piece front took = absurd took
IsFrontOf-read (Some told) (Some xs) (Some ys) path bytes piece front took = front ∙ ap (λ r. Some (bytes ++ r)) took ∙ ap Some (sym (append_assoc bytes piece ys))

-- a front that is too long is one of a file that is too long
pub IsLongFile-front : (files : Option Files) (left : Option (List ℕ)) (path bytes : List ℕ) → IsFrontOf files left path bytes → most_bytes < length bytes → IsLongFile files path
IsLongFile-front None left path bytes front long = tt
IsLongFile-front (Some told) None path bytes front long = absurd front
IsLongFile-front (Some told) (Some rest) path bytes front long = (bytes ++ rest, front, omega (arith, length-append bytes rest))
