-- A section that is being written, and what the calls of a writer do to it.
use Rattle.std.specs.Prelude.{◌≡◌, ℕ, ◌+◌, ◌^◌, ◌-◌, ◌<◌, ◌≤◌, ◌⊎◌, pos, FitsSigned, List, [], ◌∷◌, ◌++◌, length, take, drop, Option, Some, None, IsSomeAnd, Result, Ok, Err}
use Rattle.std.specs.List.{All}
use Rattle.std.specs.Int.{w32, w64, cast_unsigned}
use Rattle.dwc_base.specs.declared.records.Endian.{Endian}
use Rattle.dwc_base.specs.declared.records.Address.{Address}
use Rattle.dwc_base.specs.declared.records.Address.TheVariants.{Constant, Symbol}
use Rattle.dwc_base.specs.declared.section_name.SectionName.{SectionName}
use Rattle.dwc_base.specs.Sections.{section_text}
use Rattle.dwc_base.specs.Outputs.{RelocationTarget, function, section, OutputRelocation, OutputSection}
use Rattle.dwc_section.specs.declared.error.WriteError.{WriteError}
use Rattle.dwc_section.specs.declared.error.WriteError.TheVariants.{TooLarge, OutOfMemory}
use Rattle.dwc_base.specs.declared.faults.Limit.{Limit}
use Rattle.dwc_base.specs.declared.faults.Limit.TheVariants.{Section, Expression}
use Rattle.dwc_base.specs.NumberBytes.{number_bytes}

-- the order of its numbers, its name, its bytes so far, and its relocations in the order of the calls
pub record Writing : Type 0 where
  pub order : Endian
  pub name : SectionName
  pub body : List ℕ
  pub relocations : List OutputRelocation

-- the most bytes that a section holds
abbrev pub most_bytes : ℕ
most_bytes = 2 ^ 31 - 1

-- A section is refused for its size.
abbrev pub IsTooLarge : {A : Type 0} → Result A WriteError → SectionName → Type 0
IsTooLarge result name = result ≡ Err (TooLarge (Section name))

-- A call answers so, or is refused for want of memory.
abbrev pub OkUnlessMemory : {A : Type 0} → Result A WriteError → (A → Type 0) → Type 0
OkUnlessMemory (Ok x) P = P x
OkUnlessMemory (Err e) P = e ≡ OutOfMemory

-- the section whose size a limit is of, where it is of one
abbrev pub section_of : Limit → Option SectionName
section_of (Section name) = Some name
section_of _ = None

-- A refusal for want of memory, or for the size of a section of which this holds.
abbrev pub IsSizeRefusal : (SectionName → Type 0) → WriteError → Type 0
IsSizeRefusal P OutOfMemory = Unit {0}
IsSizeRefusal P (TooLarge what) = IsSomeAnd (section_of what) P
IsSizeRefusal P _ = ⊥

-- P holds of a section, where there is one, and else Q.
abbrev pub HoldsOf : Type 0 → (SectionName → Type 0) → Option SectionName → Type 0
HoldsOf Q P None = Q
HoldsOf Q P (Some name) = P name

-- The same refusal, or one for an expression of a location list, where Q holds.
abbrev pub IsRefusalFor : Type 0 → (SectionName → Type 0) → WriteError → Type 0
IsRefusalFor Q P OutOfMemory = Unit {0}
IsRefusalFor Q P (TooLarge what) = HoldsOf ((what ≡ Expression) × Q) P (section_of what)
IsRefusalFor Q P _ = ⊥

-- Of a section of this name so many bytes are too many.
abbrev pub IsPast : SectionName → ℕ → SectionName → Type 0
IsPast own size name = (name ≡ own) × (most_bytes < size)

-- A refusal to append so many bytes: for want of memory, or for what the section's size would be.
abbrev pub Refuses : WriteError → Writing → ℕ → Type 0
Refuses e w more = IsSizeRefusal (IsPast w.name (length w.body + more)) e

-- bytes and relocations behind what is there
abbrev pub appended : List ℕ → List OutputRelocation → Writing → Writing
appended bytes relocations w = record { order = w.order; name = w.name; body = w.body ++ bytes; relocations = w.relocations ++ relocations }

-- bytes in the place of as many from an offset on
abbrev pub replaced : ℕ → List ℕ → List ℕ → List ℕ
replaced offset bytes body = take offset body ++ (bytes ++ drop (offset + length bytes) body)

-- the same, with relocations
abbrev pub overwritten : ℕ → List ℕ → List OutputRelocation → Writing → Writing
overwritten offset bytes relocations w = record { order = w.order; name = w.name; body = replaced offset bytes w.body; relocations = w.relocations ++ relocations }

-- A call appends bytes and relocations, or refuses.
abbrev pub Writes : Writing → Writing → Result (Unit {0}) WriteError → List ℕ → List OutputRelocation → Type 0
Writes old new (Ok done) bytes relocations = new ≡ appended bytes relocations old
Writes old new (Err e) bytes relocations = Refuses e old (length bytes)

-- the relocation of an address that is written at an offset: none for a number
abbrev pub address_relocations : ℕ → ℕ → Address → List OutputRelocation
address_relocations offset size (Constant n) = []
address_relocations offset size (Symbol symbol addend) = record { offset = offset; size = size; target = function symbol; addend = addend } ∷ []

-- the relocation of a place in a section that is written at an offset
abbrev pub offset_relocation : ℕ → ℕ → SectionName → ℕ → OutputRelocation
offset_relocation offset size name value = record { offset = offset; size = size; target = section (section_text name); addend = pos value }

-- the sizes of numbers that a writer writes
abbrev pub IsSize : ℕ → Type 0
IsSize size = (size ≡ 1) ⊎ ((size ≡ 2) ⊎ ((size ≡ 4) ⊎ (size ≡ 8)))

-- An addend fits 32 signed bits, and a number its bytes.
abbrev pub FitsField : ℕ → Address → Type 0
FitsField size (Constant n) = n < 256 ^ size
FitsField size (Symbol symbol addend) = FitsSigned w32 addend

-- a target is a function's number or the name of a section
abbrev pub FitsTarget : RelocationTarget → Type 0
FitsTarget (function n) = n < 2 ^ 64
FitsTarget (section name) = (s : SectionName) × (name ≡ section_text s)

-- A relocation lies whole inside the body, which holds its addend there.
pub record IsWhole (order : Endian) (body : List ℕ) (r : OutputRelocation) : Type 0 where
  pub inside : r.offset + r.size ≤ length body
  pub holds : take r.size (drop r.offset body) ≡ number_bytes order r.size (cast_unsigned w64 r.addend)
  pub addend : FitsSigned w32 r.addend
  pub target : FitsTarget r.target

-- no relocation meets these bytes
abbrev pub IsClear : ℕ → ℕ → List OutputRelocation → Type 0
IsClear offset size relocations = All (λ r. (r.offset + r.size ≤ offset) ⊎ (offset + size ≤ r.offset)) relocations

-- A section as it is given away: of a known name, no longer than it can be, its body of bytes, its relocations whole.
pub record IsSound (order : Endian) (s : OutputSection) : Type 0 where
  pub name : SectionName
  pub named : s.name ≡ section_text name
  pub short : length s.body ≤ most_bytes
  pub bytes : All (λ b. b < 256) s.body
  pub relocations : All (IsWhole order s.body) s.relocations
