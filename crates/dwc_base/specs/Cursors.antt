-- What a call of a cursor says.
use Rattle.std.specs.Prelude.{◌≡◌, ℕ, List, Result, Ok, Err}
use Rattle.std.specs.Borrow.{Bor}
use Rattle.dwc_base.specs.declared.faults.Flaw.{Flaw}
use Rattle.dwc_base.specs.declared.faults.Flaw.TheVariants.{EndsEarly, TooWide}
use Rattle.dwc_base.specs.Reading.{Unread, Read}
use Rattle.dwc_base.specs.declared.faults.NotRead.{NotRead}
use Rattle.dwc_base.specs.declared.faults.NotRead.TheVariants.{OutOfMemory, Flawed}
use Rattle.dwc_base.specs.declared.cursor.CursorFault.{CursorFault}
use Rattle.dwc_base.specs.declared.cursor.CursorFault.TheVariants.{End, Wide}

-- what was wrong, and where
abbrev pub flaw_of : CursorFault → Flaw
flaw_of (End offset) = EndsEarly
flaw_of (Wide offset) = TooWide

-- where it was
abbrev pub place_of : CursorFault → ℕ
place_of (End offset) = offset
place_of (Wide offset) = offset

-- A call gives what reading gives, its value seen by `view`, and goes on behind it; after a fault nothing has changed.
abbrev pub Reads : {A B : Type 0} → (A → B) → Read B → Unread → Unread → Result A CursorFault → Type 0
Reads view read old new (Ok x) = read ≡ Ok (view x, new)
Reads view read old new (Err e) = (read ≡ Err (flaw_of e)) × (place_of e ≡ old.place) × (new ≡ old)

-- A reader over a cursor gives what reading gives, its value seen by `view`, and goes on behind it; an error is the flaw
-- that is met.
abbrev pub Gives : {A B : Type 0} → (A → B) → Read B → Unread → Result A Flaw → Type 0
Gives view read new (Ok x) = read ≡ Ok (view x, new)
Gives view read new (Err flaw) = read ≡ Err flaw

-- the same of what is read last
abbrev pub GivesLast : {A B : Type 0} → (A → B) → Result B Flaw → Result A Flaw → Type 0
GivesLast view read (Ok x) = read ≡ Ok (view x)
GivesLast view read (Err flaw) = read ≡ Err flaw

-- The same of a reader that takes memory: an error is want of memory, or the flaw that is met.
abbrev pub Fails : {B : Type 0} → NotRead → Read B → Type 0
Fails OutOfMemory read = Unit {0}
Fails (Flawed flaw) read = read ≡ Err flaw

-- a reader that takes memory gives what reading gives, or fails so
abbrev pub GivesOrMemory : {A B : Type 0} → (A → B) → Read B → Unread → Result A NotRead → Type 0
GivesOrMemory view read new (Ok x) = read ≡ Ok (view x, new)
GivesOrMemory view read new (Err e) = Fails e read

-- the same error where nothing is read behind
abbrev pub FailsLast : {B : Type 0} → NotRead → Result B Flaw → Type 0
FailsLast OutOfMemory read = Unit {0}
FailsLast (Flawed flaw) read = read ≡ Err flaw

-- the same reader of what is read last
abbrev pub GivesLastOrMemory : {A B : Type 0} → (A → B) → Result B Flaw → Result A NotRead → Type 0
GivesLastOrMemory view read (Ok x) = read ≡ Ok (view x)
GivesLastOrMemory view read (Err e) = FailsLast e read

-- the bytes of a slice that is lent
abbrev pub slice_bytes : Bor (List ℕ) → List ℕ
slice_bytes x = x.now
