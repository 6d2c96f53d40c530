-- What is kept of functions whose maps are good, one function after the other.
use Rattle.std.proofs.Common.{◌≡◌, ℕ, suc, ◌+◌, ◌<◌, List, [], ◌∷◌, ◌++◌, map, length, drop, get_or, refl, ap, sym, ◌∙◌, arith, Option, None, add-one}
use Rattle.std.specs.Prelude.{option_map}
use Rattle.std.specs.Option.{option_or}
use Rattle.std.proofs.lemmas.List.{drop_more, append_assoc}
use Rattle.dwc_base.specs.declared.records.MapFault.{MapFault}
use Rattle.dwc_base.specs.declared.records.OutputFor.{OutputFor}
use Rattle.dwc_native.specs.Functions.{Function, map_fault, function_of, functions_of}
use Rattle.dwc_compiled.specs.AddressMaps.{address_map_view}
use Rattle.dwc_addr.specs.declared.function_map.FunctionMap.{FunctionMap}
use Rattle.dwc_addr.specs.Numbers.{Compiled}
use Rattle.dwc_addr.specs.Transforms.{function_view, first_bad_map}

map-pushed : (maps : List FunctionMap) (m : FunctionMap) → map function_view (maps ++ (m ∷ [])) ≡ map function_view maps ++ (function_view m ∷ [])
map-pushed [] m = refl
map-pushed (k ∷ ks) m = ap (λ fs. function_view k ∷ fs) (map-pushed ks m)

module _ (output : OutputFor) (offset first i : ℕ) (fs : List Compiled) (f : Compiled) (inside : i < length fs) (is : f ≡ get_or fs i f) where
  left : map address_map_view (drop i fs) ≡ address_map_view f ∷ map address_map_view (drop (i + 1) fs)
  left = ap (map address_map_view) (drop_more fs i f inside ∙ ap (λ x. x ∷ drop (i + 1) fs) (sym is))

  -- A function with a good map is passed,
  pub bad-behind : map_fault offset (address_map_view f) ≡ None → first_bad_map offset (i + 1) (map address_map_view (drop (i + 1) fs)) ≡ first_bad_map offset i (map address_map_view (drop i fs))
  bad-behind good =
      ap (λ n. first_bad_map offset n (map address_map_view (drop (i + 1) fs))) (add-one i)
      ∙ ap (λ (o : Option MapFault). option_or (option_map (λ why. (i, why)) o) (first_bad_map offset (suc i) (map address_map_view (drop (i + 1) fs)))) (sym good)
      ∙ ap (first_bad_map offset i) (sym left)

  -- and what is kept of it is put behind what is kept of those before.
  pub kept-behind : (maps : List FunctionMap) (m : FunctionMap) → function_view m ≡ function_of output offset (first + i) (address_map_view f)
      → map function_view (maps ++ (m ∷ [])) ++ functions_of output offset (first + (i + 1)) (map address_map_view (drop (i + 1) fs)) ≡ map function_view maps ++ functions_of output offset (first + i) (map address_map_view (drop i fs))
  kept-behind maps m kept =
      let rest : ℕ → List Function = λ n. functions_of output offset n (map address_map_view (drop (i + 1) fs)) in
      let next : first + (i + 1) ≡ first + i + 1 = omega arith in
      ap (λ front. front ++ rest (first + (i + 1))) (map-pushed maps m)
      ∙ append_assoc (map function_view maps) (function_view m ∷ []) (rest (first + (i + 1)))
      ∙ ap (λ n. map function_view maps ++ (function_view m ∷ rest n)) next
      ∙ ap (λ x. map function_view maps ++ (x ∷ rest (first + i + 1))) kept
      ∙ ap (λ ms. map function_view maps ++ functions_of output offset (first + i) ms) (sym left)
