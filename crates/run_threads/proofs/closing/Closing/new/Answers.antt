use Rattle.std.proofs.Common.{◌≡◌, ◌≤◌, length, map, ap, ◌∙◌, subst, sum_by, arith}
use Rattle.std.specs.Prelude.{vec_capacity}
use Rattle.std.proofs.lemmas.List.{length-map}
use Rattle.device_api.specs.Channels.{channels}
use Rattle.mesh_core.specs.Left.{IsRoomFor}
use Rattle.mesh_core.specs.State.{way_of}
use Rattle.run_threads.specs.Proxied.{queues_on}
use Rattle.run_threads.proofs.closing.Closing.new.Goals as goal

pub returns : goal.returns
returns g c =
    let links = c.args.wiring.now.links in
    let components : c.len-components.result ≡ length c.args.wiring.now.kinds = c.len-components.ensures in
    let ways : c.in_ok-ways.ways.items ≡ map way_of (channels links) = c.in_ok-ways.ensures ∙ ap (λ l. map way_of (channels l)) c.as_slice-links.ensures in
    let counted : c.len-channels.result ≡ length c.in_ok-ways.ways.items = omega arith in
    let many : c.len-channels.result ≡ length (channels links) = counted ∙ ap length ways ∙ length-map (channels links) way_of in
    let queues : c.count_queues-queues.result ≡ sum_by queues_on links = c.count_queues-queues.ensures ∙ ap (sum_by queues_on) c.as_slice-links.ensures in
    record {
      components_are = components;
      no_parts = c.in_ok-with_capacity.ensures.items;
      for_parts = subst (λ n. n ≤ vec_capacity c.in_ok-with_capacity.field-0) components c.in_ok-with_capacity.ensures.capacity;
      no_runners = c.in_ok-with_capacity-2.ensures.items;
      for_runners = subst (λ n. n ≤ vec_capacity c.in_ok-with_capacity-2.field-0) components c.in_ok-with_capacity-2.ensures.capacity;
      for_outcome = subst (λ n. IsRoomFor n (length (channels links)) c.in_ok-new.field-0) components (subst (λ n. IsRoomFor c.len-components.result n c.in_ok-new.field-0) many c.in_ok-new.ensures);
      ways_are = ways;
      slots_to_send = c.in_ok-vacant.ensures ∙ many;
      slots_to_receive = c.in_ok-vacant-2.ensures ∙ many;
      no_producers = c.in_ok-with_capacity-3.ensures.items;
      for_producers = subst (λ n. n ≤ vec_capacity c.in_ok-with_capacity-3.field-0) many c.in_ok-with_capacity-3.ensures.capacity;
      no_consumers = c.in_ok-with_capacity-4.ensures.items;
      for_consumers = subst (λ n. n ≤ vec_capacity c.in_ok-with_capacity-4.field-0) many c.in_ok-with_capacity-4.ensures.capacity;
      links_are = c.in_ok-from_slice.ensures.items ∙ c.as_slice-links.ensures;
      no_all_producers = c.in_ok-with_capacity-5.ensures.items;
      for_all_producers = subst (λ n. n ≤ vec_capacity c.in_ok-with_capacity-5.field-0) queues c.in_ok-with_capacity-5.ensures.capacity;
      no_all_consumers = c.in_ok-with_capacity-6.ensures.items;
      for_all_consumers = subst (λ n. n ≤ vec_capacity c.in_ok-with_capacity-6.field-0) queues c.in_ok-with_capacity-6.ensures.capacity;
    }
