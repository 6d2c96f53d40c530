use Rattle.std.proofs.Common.{◌≡◌, List, ℕ, map, length, sym, ap, ◌∙◌}
use Rattle.std.specs.Prelude.{◌&&◌}
use Rattle.std.specs.List.{list_all}
use Rattle.std.proofs.lemmas.List.{length-map}
use Rattle.dwc_dwarf.specs.LineHeaders.{LineFile}
use Rattle.dwc_dwarf.specs.LineFiles.{is_named}
use Rattle.dwc_base.specs.Cursors.{slice_bytes}
use Rattle.dwc_tabs.specs.Headers.{file_view}
use Rattle.dwc_tabs.specs.Programs.{are_within}
use Rattle.dwc_tabs.specs.Tables.{is_named_within}
use Rattle.dwc_tabs.proofs.FileLaws.{table-files}
use Rattle.dwc_tabs.proofs.table.LineTable.has_all_files.Goals as goal

pub returns : goal.returns
returns c =
    let t = c.args.self.now in
    let numbers = c.args.check.files in
    let version : c.self.inside.parameters.version ≡ t.header.version = ap (λ t. t.header.version) c.self.view_is in
    let files : map file_view c.deref.result.now ≡ t.files = ap (map file_view) c.deref.ensures.value ∙ ap (λ t. t.files) c.self.view_is in
    let names : map slice_bytes c.deref-2.result.now ≡ t.header.directories = ap (map slice_bytes) c.deref-2.ensures.value ∙ ap (λ t. t.header.directories) c.self.view_is in
    let count : length c.deref.result.now ≡ length t.files = sym (length-map c.deref.result.now file_view) ∙ ap length files in
    let directories : length c.deref-2.result.now ≡ length t.header.directories = sym (length-map c.deref-2.result.now slice_bytes) ∙ ap length names in
    c.are_there.ensures
    ∙ ap (λ v. are_within v (length c.deref.result.now) numbers && list_all (is_named_within (length c.deref-2.result.now)) (map file_view c.deref.result.now) && list_all is_named (map slice_bytes c.deref-2.result.now)) version
    ∙ ap (λ n. are_within t.header.version n numbers && list_all (is_named_within (length c.deref-2.result.now)) (map file_view c.deref.result.now) && list_all is_named (map slice_bytes c.deref-2.result.now)) count
    ∙ ap (λ n. are_within t.header.version (length t.files) numbers && list_all (is_named_within n) (map file_view c.deref.result.now) && list_all is_named (map slice_bytes c.deref-2.result.now)) directories
    ∙ ap (λ (fs : List LineFile). are_within t.header.version (length t.files) numbers && list_all (is_named_within (length t.header.directories)) fs && list_all is_named (map slice_bytes c.deref-2.result.now)) files
    ∙ ap (λ (ds : List (List ℕ)). are_within t.header.version (length t.files) numbers && list_all (is_named_within (length t.header.directories)) t.files && list_all is_named ds) names
    ∙ sym (table-files t c.args.check c.requires)
