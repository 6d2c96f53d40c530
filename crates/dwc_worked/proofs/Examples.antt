-- The small module's map, and the text of an output for it, worked out by hand.
use Rattle.std.proofs.Common.{◌≡◌, ℕ, ◌+◌, ◌*◌, ◌^◌, pos, List, [], ◌∷◌, ◌++◌, Some, None, true, false, refl}
use Rattle.std.specs.Prelude.{codes}
use Rattle.std.specs.List.{list_all}
use Rattle.std.specs.FinMap as finite
use Rattle.dwc_base.specs.declared.records.OutputFor.TheVariants.{Default}
use Rattle.dwc_native.specs.Compiled.{no_memory}
use Rattle.dwc_base.specs.Outputs.{OutputSection, function, section}
use Rattle.dwc_isa.specs.declared.architecture.Architecture.TheVariants.{X86_64}
use Rattle.dwc_map.specs.MapFile.{MapFile, map_of_bytes}
use Rattle.dwc_cli.specs.Printed.{printed, line_feed, is_plain}
use Rattle.dwc_worked.proofs.WholeOutput.{output_whole}
use Rattle.dwc_cli.proofs.OnLiterals.{printed_on_literals}
use Rattle.dwc_map.proofs.OnLiterals.{map_on_literals}

abbrev pub map_bytes_small : List ℕ
map_bytes_small = codes "{\"target\":{\"arch\":\"x86_64\"},\"names\":[\"set_mem\",\"resolve_mem\"],\"modules\":[{\"path\":\"/m/g.wasm\",\"functions\":[{\"symbol\":0,\"start\":22,\"end\":33,\"body_len\":30,\"map\":[[5,25],[8,null],[15,30],[23,null]]}]}]}"

abbrev pub map_small : MapFile
map_small = record {
  target = record { architecture = X86_64; big_endian = false; pointer_bytes = 8; version = 4; output = Default; registers = finite.empty; common_entry = None };
  set_memory = codes "set_mem";
  resolve_memory = codes "resolve_mem";
  modules =
      record {
        functions =
            record {
              address_map = record { symbol = Some 0; start = Some 22; end = Some 33; body_offset = 0; body_len = 30; entries = (5, Some 25) ∷ (8, None) ∷ (15, Some 30) ∷ (23, None) ∷ [] };
              labels = finite.empty;
              frame = None;
            } ∷ [];
        memory = no_memory;
        path = Some (codes "/m/g.wasm");
      } ∷ [];
  next_id = 0;
}

pub map-small : map_of_bytes (1 ∷ []) map_bytes_small ≡ Some map_small
unfolding map_on_literals
map-small = refl

-- a brace alone is no JSON, and a map with a function missing has no value
brace : map_of_bytes (1 ∷ []) (codes "{") ≡ None
unfolding map_on_literals
brace = refl

function-missing : map_of_bytes (2 ∷ []) map_bytes_small ≡ None
unfolding map_on_literals
function-missing = refl

-- what is printed of the output for it: its synthetic unit, behind that the carried one with its lines, and last the one that lists no function
printed-small : printed output_whole ≡
    (codes "section .debug_abbrev 125" ++ line_feed)
    ++ (codes "011101030e250e13050000022400030e3e0b0b0b0000030f00030e49130000041301030e0000052e016e0e030e00000605004913340c0000072400030e0b0b3e0b00000001110110170000022e011101120f0000033400030e49100217000000011101250e1305030e10171b0e55170000022400030e0b0b3e0b000000" ++ line_feed)
    ++ (codes "section .debug_info 181" ++ line_feed)
    ++ (codes "490000000400000000000801000000001c0000001d0002250000000701032800000016000000042c000000053e00000046000000063c000000010000034a00000026000000075d000000040700250000000400440000000801000000000200000000000000001e036c0000003c0000000000000000003b00000004006000000008011c0000001d00740000003d0000007b00000000000000027e00000004050282000000080502860000000404028a000000080400" ++ line_feed)
    ++ (codes "reloc 6 4 section .debug_abbrev 0" ++ line_feed)
    ++ (codes "reloc 12 4 section .debug_str 0" ++ line_feed)
    ++ (codes "reloc 16 4 section .debug_str 28" ++ line_feed)
    ++ (codes "reloc 23 4 section .debug_str 37" ++ line_feed)
    ++ (codes "reloc 30 4 section .debug_str 40" ++ line_feed)
    ++ (codes "reloc 39 4 section .debug_str 44" ++ line_feed)
    ++ (codes "reloc 44 4 section .debug_str 62" ++ line_feed)
    ++ (codes "reloc 48 4 section .debug_str 70" ++ line_feed)
    ++ (codes "reloc 61 4 section .debug_str 74" ++ line_feed)
    ++ (codes "reloc 70 4 section .debug_str 93" ++ line_feed)
    ++ (codes "reloc 83 4 section .debug_abbrev 68" ++ line_feed)
    ++ (codes "reloc 89 4 section .debug_line 0" ++ line_feed)
    ++ (codes "reloc 94 8 func 0 0" ++ line_feed)
    ++ (codes "reloc 104 4 section .debug_str 108" ++ line_feed)
    ++ (codes "reloc 108 4 section .debug_info 60" ++ line_feed)
    ++ (codes "reloc 112 4 section .debug_loc 0" ++ line_feed)
    ++ (codes "reloc 124 4 section .debug_abbrev 96" ++ line_feed)
    ++ (codes "reloc 130 4 section .debug_str 28" ++ line_feed)
    ++ (codes "reloc 136 4 section .debug_str 116" ++ line_feed)
    ++ (codes "reloc 140 4 section .debug_line 61" ++ line_feed)
    ++ (codes "reloc 144 4 section .debug_str 123" ++ line_feed)
    ++ (codes "reloc 148 4 section .debug_ranges 0" ++ line_feed)
    ++ (codes "reloc 153 4 section .debug_str 126" ++ line_feed)
    ++ (codes "reloc 160 4 section .debug_str 130" ++ line_feed)
    ++ (codes "reloc 167 4 section .debug_str 134" ++ line_feed)
    ++ (codes "reloc 174 4 section .debug_str 138" ++ line_feed)
    ++ (codes "section .debug_line 101" ++ line_feed)
    ++ (codes "3900000004001b000000010101fb0e0d00010101010000000100000100612e63000000000000090200000000000000000301010301020f01020f0001012400000004001e000000010101fb0e0d00010101010000000100000100672e7761736d0000000000" ++ line_feed)
    ++ (codes "reloc 40 8 func 0 0" ++ line_feed)
    ++ (codes "section .debug_ranges 16" ++ line_feed)
    ++ (codes "00000000000000000000000000000000" ++ line_feed)
    ++ (codes "section .debug_loc 16" ++ line_feed)
    ++ (codes "00000000000000000000000000000000" ++ line_feed)
    ++ (codes "section .debug_str 142" ++ line_feed)
    ++ (codes "5761736d74696d654d6f64756c6553796e746865746963556e6974007761736d74696d650075380075382a005761736d74696d65564d436f6e74657874007365745f6d656d00736574005761736d74696d65564d436f6e746578742a00576562417373656d626c79507472005f5f766d63747800672e7761736d002f6d0069333200693634006633320066363400" ++ line_feed)
unfolding printed_on_literals
printed-small = refl

nothing : printed [] ≡ []
unfolding printed_on_literals
nothing = refl

plain-small : list_all is_plain output_whole ≡ true
plain-small = refl

-- A name with a space or a line feed may swallow what stands before the sections that a reader finds: these two lists have
-- one text. The first is not plain.
abbrev pub output_swallowed : List OutputSection
output_swallowed = record { name = codes "x 0" ++ line_feed ++ line_feed ++ codes "section .debug_info"; body = 0xFF ∷ 0xFF ∷ 0xFF ∷ 0xFF ∷ []; relocations = [] } ∷ []

abbrev pub output_apart : List OutputSection
output_apart = record { name = codes "x"; body = []; relocations = [] } ∷ record { name = codes ".debug_info"; body = 0xFF ∷ 0xFF ∷ 0xFF ∷ 0xFF ∷ []; relocations = [] } ∷ []

same_text : printed output_swallowed ≡ printed output_apart
unfolding printed_on_literals
same_text = refl

not_plain-swallowed : list_all is_plain output_swallowed ≡ false
not_plain-swallowed = refl

plain-apart : list_all is_plain output_apart ≡ true
plain-apart = refl

-- the same of the name that a relocation gives
not_plain-target : list_all is_plain (record { name = codes "x"; body = []; relocations = record { offset = 0; size = 4; target = section (codes "y 0" ++ line_feed); addend = pos 0 } ∷ [] } ∷ []) ≡ false
not_plain-target = refl

-- a body holds bytes
not_plain-wide : list_all is_plain (record { name = codes "x"; body = 256 ∷ []; relocations = [] } ∷ []) ≡ false
not_plain-wide = refl

-- a number in decimal ends after 64 digits, so the numbers of relocations have 64 bits
abbrev pub output_far : ℕ → List OutputSection
output_far offset = record { name = codes "x"; body = []; relocations = record { offset = offset; size = 4; target = function 0; addend = pos 0 } ∷ [] } ∷ []

same_text-far : printed (output_far (10 ^ 64 + 5)) ≡ printed (output_far (2 * 10 ^ 64 + 5))
unfolding printed_on_literals
same_text-far = refl

not_plain-far : list_all is_plain (output_far (10 ^ 64 + 5)) ≡ false
not_plain-far = refl
