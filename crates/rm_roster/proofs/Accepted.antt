-- What holds of the roster of files that no check refuses.
use Rattle.std.proofs.Common.{◌≡◌, ◌++◌, ◌∙◌, List, [], ◌∷◌, length, map, None, sym, arith}
use Rattle.std.proofs.lemmas.List.{length-map}
use Rattle.std.proofs.lemmas.List.FromFn.{length-map-range_with_len}
use Rattle.std.proofs.lemmas.List.Sums.{sum-map}
use Rattle.rm_base.specs.Checks.{first_of, checks_of}
use Rattle.rm_base.specs.declared.codes.TheConstants.{DOCTORS_FILE, HOSPITALS_FILE, RANKS_FILE}
use Rattle.rm_base.proofs.CheckLemmas.{none-parts}
use Rattle.rm_table.specs.Rows.{Row}
use Rattle.rm_roster.specs.Cells.{data_rows, header_check, name_in}
use Rattle.rm_roster.specs.Doctors.{doctor_checks_after, doctor_header, doctor_table_checks}
use Rattle.rm_roster.specs.Hospitals.{capacity_in, each_once, hospital_checks_after, hospital_header, hospital_table_checks, number_in, prefecture_in, target_in}
use Rattle.rm_roster.specs.Items.{list_in}
use Rattle.rm_roster.specs.Ranks.{rank_checks_after, rank_header, rank_of, rank_table_checks}
use Rattle.rm_roster.specs.Roster.{IsRoster, names_in, roster_checks, roster_of}
use Rattle.rm_roster.proofs.NumberedTexts.{numbers-within}
use Rattle.rm_roster.proofs.AcceptedHospitals.{hospitals-hold}
use Rattle.rm_roster.proofs.AcceptedLists.{doctors-hold, each-rank, few-contracts, ranks-hold, sum-of-map}

pub accepted : (hospitals doctors ranks : List Row) → first_of (roster_checks hospitals doctors ranks) ≡ None → IsRoster (roster_of hospitals doctors ranks)
unfolding roster_checks roster_of
accepted hospitals doctors ranks e =
    let hs = data_rows hospitals in
    let ds = data_rows doctors in
    let rs = data_rows ranks in
    let hospital_names = names_in hospitals in
    let doctor_names = names_in doctors in
    let files = none-parts (hospital_table_checks hospitals) (doctor_table_checks hospital_names doctors ++ rank_table_checks hospital_names doctor_names ranks) e in
    let lists = none-parts (doctor_table_checks hospital_names doctors) (rank_table_checks hospital_names doctor_names ranks) files.1 in
    let h = hospitals-hold hs (none-parts (header_check HOSPITALS_FILE hospital_header hospitals ∷ []) (checks_of hospital_checks_after hs) files.0).1 in
    let d = doctors-hold hospital_names ds (none-parts (header_check DOCTORS_FILE doctor_header doctors ∷ []) (checks_of (doctor_checks_after hospital_names) ds) lists.0).1 in
    let r = ranks-hold hospital_names doctor_names rs (none-parts (header_check RANKS_FILE rank_header ranks ∷ []) (checks_of (rank_checks_after hospital_names doctor_names) rs) lists.1).1 in
    let prefectures = each_once (map prefecture_in hs) in
    record {
      few_hospitals = omega (arith, h.few, length-map hs name_in);
      hospitals = h.names;
      prefectures = h.prefectures;
      few_doctors = omega (arith, d.few, length-map ds name_in);
      doctors = d.names;
      prefecture_each = length-map (map prefecture_in hs) (number_in prefectures) ∙ length-map hs prefecture_in ∙ sym (length-map hs name_in);
      prefecture_of = numbers-within prefectures (map prefecture_in hs) h.placed;
      capacity_each = length-map hs capacity_in ∙ sym (length-map hs name_in);
      capacities = h.capacities;
      seats = omega (arith, h.seats, sum-map capacity_in hs);
      target_each = length-map hs target_in ∙ sym (length-map hs name_in);
      targets = h.targets;
      list_each = length-map ds (list_in hospital_names) ∙ sym (length-map ds name_in);
      lists = d.lists;
      few_choices = omega (arith, d.held, sum-of-map length (list_in hospital_names) ds);
      rank_each = length-map-range_with_len (rank_of hospital_names doctor_names rs) 0 (length hospital_names);
      ranks = each-rank hospital_names doctor_names rs r;
      few_contracts = omega (arith, r.held, few-contracts hospital_names doctor_names rs);
    }
