-- Room for what a crew leaves, made with the crew.
use Rattle.std.specs.Prelude.{ℕ, ◌≡◌, ◌≤◌, List, [], length, map, vec_capacity, sum_by}
use Rattle.cs_base.specs.declared.link.Link.{Link}
use Rattle.device_api.specs.Channels.{channels}
use Rattle.mesh_core.specs.Left.{IsRoomFor}
use Rattle.mesh_core.specs.State.{way_of}
use Rattle.run_threads.specs.declared.closing.Closing.{Closing}
use Rattle.run_threads.specs.Proxied.{queues_on}

-- empty lists with room for the parts of so many components, for what they leave, for the sides of
-- the queues that each channel has at components, and for those of all queues; and a slot for either
-- end of each channel
pub record HasRoomFor {V : Type 0} (components : ℕ) (links : List Link)
    (closing : Closing V) : Type 0 where
  pub components_are : closing.components ≡ components
  pub no_parts : closing.parts.items ≡ []
  pub for_parts : components ≤ vec_capacity closing.parts
  pub no_runners : closing.runners.items ≡ []
  pub for_runners : components ≤ vec_capacity closing.runners
  pub for_outcome : IsRoomFor components (length (channels links)) closing.room
  pub ways_are : closing.ways.items ≡ map way_of (channels links)
  pub slots_to_send : length closing.senders.items ≡ length (channels links)
  pub slots_to_receive : length closing.receivers.items ≡ length (channels links)
  pub no_producers : closing.producers.items ≡ []
  pub for_producers : length (channels links) ≤ vec_capacity closing.producers
  pub no_consumers : closing.consumers.items ≡ []
  pub for_consumers : length (channels links) ≤ vec_capacity closing.consumers
  pub links_are : closing.links.items ≡ links
  pub no_all_producers : closing.all_producers.items ≡ []
  pub for_all_producers : sum_by queues_on links ≤ vec_capacity closing.all_producers
  pub no_all_consumers : closing.all_consumers.items ≡ []
  pub for_all_consumers : sum_by queues_on links ≤ vec_capacity closing.all_consumers
