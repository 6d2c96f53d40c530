-- Names of functions and of their locals, as a file tells them by rising numbers, and as they are made of numbers. (WebAssembly 1.0,
-- section 7.4.1.)
use Rattle.std.specs.Prelude.{ℕ, List, ◌++◌, Bool, nat_lt, ◌==◌, ◌&&◌, ◌||◌, Option, option_map, codes}
use Rattle.std.specs.List.{find}
use Rattle.std.specs.Fmt.{decimal}

-- the name of a function made of its number
abbrev pub numbered_function : ℕ → List ℕ
numbered_function index = codes "wasm-function[" ++ (decimal index ++ codes "]")

-- the name of a local made of its number
abbrev pub numbered_local : ℕ → List ℕ
numbered_local n = codes "var" ++ decimal n

-- whether a local, by the number of its function and its own, stands before another
abbrev pub is_before : ℕ → ℕ → ℕ × ℕ → Bool
is_before index n pair = nat_lt pair.0 index || ((pair.0 == index) && nat_lt pair.1 n)

-- the name of a local of a function among names, if they have one
abbrev pub name_among : List ((ℕ × ℕ) × List ℕ) → ℕ → ℕ → Option (List ℕ)
name_among names index n = option_map (λ row. row.1) (find (λ row. ((row.0).0 == index) && ((row.0).1 == n)) names)
