-- The keys of a policy: the text of each, and its number in refusals.
use Rattle.std.specs.Prelude.{ℕ, codes}
use Rattle.rm_base.specs.Text.{Text}
use Rattle.rm_policy.specs.declared.keys.Key.{Key}
use Rattle.rm_policy.specs.declared.keys.Key.TheVariants as key

abbrev pub key_text : Key → Text
key_text key.Version = codes "version"
key_text key.Kind = codes "kind"
key_text key.Ties = codes "ties"
key_text key.Listed = codes "listed"
key_text key.Prefecture = codes "prefecture"
key_text key.Group = codes "group"
key_text key.Hospital = codes "hospital"
key_text key.Name = codes "name"
key_text key.Cap = codes "cap"
key_text key.Order = codes "order"
key_text key.Steps = codes "steps"
key_text key.Hospitals = codes "hospitals"
key_text key.Prefectures = codes "prefectures"
key_text key.Groups = codes "groups"

abbrev pub key_number : Key → ℕ
key_number key.Version = 1
key_number key.Kind = 2
key_number key.Ties = 3
key_number key.Listed = 4
key_number key.Prefecture = 5
key_number key.Group = 6
key_number key.Hospital = 7
key_number key.Name = 8
key_number key.Cap = 9
key_number key.Order = 10
key_number key.Steps = 11
key_number key.Hospitals = 12
key_number key.Prefectures = 13
key_number key.Groups = 14
